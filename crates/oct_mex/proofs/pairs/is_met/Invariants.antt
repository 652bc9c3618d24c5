use Rattle.std.proofs.Common.{map, ◌-◌, ◌≤◌, slice_index}
use Rattle.oct_mex.specs.Marks.{IsPairValue}
use Rattle.oct_mex.proofs.pairs.is_met.Given as goal

abbrev pub invariant-loop-at : goal.invariant-loop-at
invariant-loop-at g l = record {
  first : l.from ≤ l.at;
  unmet : IsPairValue (slice_index (map g.T.Cell.number l.values)) l.rest l.from l.at (g.T.Cell.number l.value) → ⊥;
}

abbrev pub decreases-loop-at : goal.decreases-loop-at
decreases-loop-at g l = l.end - l.at

abbrev pub invariant-loop-a : goal.invariant-loop-a
invariant-loop-a g l = IsPairValue (slice_index (map g.T.Cell.number l.values)) l.rest l.from l.a (g.T.Cell.number l.value) → ⊥
