use Rattle.std.proofs.Common.{map, slice_index, ◌+◌}
use Rattle.oct_mex.specs.Marks.{AddsMarks, IsBelow, IsRarePair}
use Rattle.oct_mex.proofs.marks.mark_listed_totals.Given as goal

abbrev pub invariant-loop-at : goal.invariant-loop-at
invariant-loop-at g l = AddsMarks l.initial.marks l.marks (IsBelow (λ more. IsRarePair (slice_index (map g.T.Cell.number l.values)) l.heaps (l.rest + more) l.at) 3)
