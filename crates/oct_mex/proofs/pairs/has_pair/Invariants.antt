use Rattle.std.proofs.Common.{map, ◌<◌, length, slice_index}
use Rattle.oct_mex.specs.Marked.{IsLatePair}
use Rattle.oct_mex.proofs.pairs.has_pair.Given as goal

abbrev pub invariant-loop-removed : goal.invariant-loop-removed
invariant-loop-removed g l = (o : IsLatePair l.code (slice_index (map g.T.Cell.number l.values)) (length l.values) l.from (g.T.Cell.number l.value)) → o.removed < l.removed → ⊥
