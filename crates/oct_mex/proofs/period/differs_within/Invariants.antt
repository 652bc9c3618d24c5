use Rattle.std.proofs.Common.{◌≡◌, ◌+◌, ◌<◌, ◌≤◌, ℕ, false, map, slice_index}
use Rattle.oct_mex.proofs.period.differs_within.Given as goal

abbrev pub invariant-loop-heap : goal.invariant-loop-heap
invariant-loop-heap g l = l.differs ≡ false → (n : ℕ) → l.from ≤ n → n < l.heap → slice_index (map g.T.Cell.number l.values) (n + l.period) ≡ slice_index (map g.T.Cell.number l.values) n
