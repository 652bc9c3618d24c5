use Rattle.std.proofs.Common.{◌≡◌, ◌≤◌, length}
use Rattle.oct_sets.proofs.witnesses.Known.settle.Given as goal

abbrev pub invariant-loop-at : goal.invariant-loop-at
invariant-loop-at g l = record {
  kept : l.kept ≤ l.at;
  len : length l.lacking.items ≡ length l.initial.lacking.items;
}
