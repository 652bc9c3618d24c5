use Rattle.std.proofs.Common.{◌≡◌, ◌<◌, ℕ, map, slice_index}
use Rattle.oct_mex.specs.NimValues.{nim_value}
use Rattle.oct_mex.proofs.following.Leader.begin_with.Given as goal

abbrev pub invariant-loop-heap : goal.invariant-loop-heap
invariant-loop-heap g l = (m : ℕ) → m < l.heap → slice_index (map g.T.Cell.number l.values) m ≡ nim_value l.self.code m
