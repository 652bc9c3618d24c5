use Rattle.std.proofs.Common.{◌<◌, ℕ, length, map, slice_index}
use Rattle.oct_mex.specs.Marks.{IsOneHeapBy}
use Rattle.oct_mex.specs.NimValues.{IsOptionValue}
use Rattle.oct_mex.proofs.following.has_those_below.Given as goal

abbrev pub invariant-loop-removed : goal.invariant-loop-removed
invariant-loop-removed g l = (v r : ℕ) → v < l.end → r < l.removed → IsOneHeapBy l.leader (slice_index (map g.T.Cell.number l.values)) (length l.values) r v
    → IsOptionValue l.code (slice_index (map g.T.Cell.number l.values)) (length l.values) v
