use Rattle.std.proofs.Common.{map, length, slice_index, ◌+◌}
use Rattle.oct_mex.specs.Marks.{AddsMarks, IsBelow, IsOneHeapBy}
use Rattle.oct_mex.proofs.marks.mark_listed_removals.Given as goal

abbrev pub invariant-loop-more : goal.invariant-loop-more
invariant-loop-more g l = AddsMarks l.initial.marks l.marks (IsBelow (λ i. IsOneHeapBy l.code (slice_index (map g.T.Cell.number l.values)) (length l.values) (l.removed + i)) l.more)
