use Rattle.std.proofs.Common.{map, slice_index}
use Rattle.oct_mex.specs.Marks.{AddsMarks, IsRarePair}
use Rattle.oct_mex.proofs.marks.mark_listed_pairs.Given as goal

abbrev pub invariant-loop-at : goal.invariant-loop-at
invariant-loop-at g l = AddsMarks l.initial.marks l.marks (IsRarePair (slice_index (map g.T.Cell.number l.values)) l.heaps l.rest l.at)
