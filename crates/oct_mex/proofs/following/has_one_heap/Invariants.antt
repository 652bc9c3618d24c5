use Rattle.std.proofs.Common.{◌<◌, ℕ, length, map, slice_index}
use Rattle.oct_mex.specs.Marks.{IsOneHeapBy}
use Rattle.oct_mex.proofs.following.has_one_heap.Given as goal

abbrev pub invariant-loop-removed : goal.invariant-loop-removed
invariant-loop-removed g l = (r : ℕ) → r < l.removed → IsOneHeapBy l.code (slice_index (map g.T.Cell.number l.values)) (length l.values) r l.value → ⊥
