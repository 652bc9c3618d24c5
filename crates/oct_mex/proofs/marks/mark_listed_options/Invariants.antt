use Rattle.std.proofs.Common.{map, length, slice_index, ◌≤◌, ◌-◌}
use Rattle.oct_mex.specs.Marks.{AddsMarks, IsBelow, IsRareBy}
use Rattle.oct_mex.proofs.marks.mark_listed_options.Given as goal

abbrev pub invariant-loop-removed : goal.invariant-loop-removed
invariant-loop-removed g l = (l.removed ≤ l.end) × AddsMarks l.fn.marks l.marks (IsBelow (IsRareBy l.code (slice_index (map g.T.Cell.number l.values)) (length l.values) l.heaps) l.removed)

abbrev pub decreases-loop-removed : goal.decreases-loop-removed
decreases-loop-removed g l = l.end - l.removed
