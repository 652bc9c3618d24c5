use Rattle.std.proofs.Common.{◌≡◌, ◌+◌, ◌≤◌, false, drop}
use Rattle.census_table.specs.Fitting.{seen}
use Rattle.census_table.proofs.fitting.seen.Given as goal

abbrev pub invariant-loop-i : goal.invariant-loop-i
invariant-loop-i l = record {
  same : l.count + seen l.part l.is_hidden (drop l.i l.lines) ≡ seen l.part false l.lines;
  few : l.count ≤ l.i;
}
