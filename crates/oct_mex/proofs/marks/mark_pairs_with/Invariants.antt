use Rattle.std.proofs.Common.{map, slice_index, ◌+◌}
use Rattle.oct_mex.specs.Marks.{AddsMarks, IsBelow, IsPairWith}
use Rattle.oct_mex.proofs.marks.mark_pairs_with.Given as goal

abbrev pub invariant-loop-more : goal.invariant-loop-more
invariant-loop-more g l = AddsMarks l.initial.marks l.marks (IsBelow (λ more. IsPairWith (slice_index (map g.T.Cell.number l.values)) l.heap (l.rest + more)) l.more)
