use Rattle.std.proofs.Common.{map, length, slice_index}
use Rattle.oct_mex.specs.Marks.{AddsMarks, IsBelow, IsOneHeapBy}
use Rattle.oct_mex.proofs.marks.mark_one_heaps.Given as goal

abbrev pub invariant-loop-removed : goal.invariant-loop-removed
invariant-loop-removed g l = AddsMarks l.initial.marks l.marks (IsBelow (IsOneHeapBy l.code (slice_index (map g.T.Cell.number l.values)) (length l.values)) l.removed)
