use Rattle.std.proofs.Common.{◌<◌, ◌≤◌, length}
use Rattle.oct_mex.proofs.period.seldom_place.Given as goal

abbrev pub invariant-loop-place : goal.invariant-loop-place
invariant-loop-place g l = record {
  behind : l.from ≤ l.greatest;
  first : l.from ≤ l.place;
  held : l.greatest < length l.values;
}
