use Rattle.std.proofs.Common.{◌+◌, ◌-◌, ◌<◌, ◌≤◌, ◌≡◌, ℕ, map, length, slice_index}
use Rattle.oct_mex.specs.Marks.{IsMarked}
use Rattle.oct_mex.specs.Marked.{HasMarked}
use Rattle.oct_mex.proofs.next.next_by_marks.Given as goal

abbrev pub invariant-loop-end : goal.invariant-loop-end
invariant-loop-end g l = record {
  some : 1 ≤ l.end;
  size : length l.marks ≡ length l.fn.marks;
  has : HasMarked l.code (slice_index (map g.T.Cell.number l.values)) (length l.values) l.heaps l.end l.marks;
  within : l.least ≤ length l.marks;
  marked : (v : ℕ) → v < l.least → IsMarked l.marks v;
  unmarked : l.least < length l.marks → IsMarked l.marks l.least → ⊥;
}

-- values that may be sought, and pairs that may be marked
abbrev pub decreases-loop-end : goal.decreases-loop-end
decreases-loop-end g l = (length l.marks - l.least) + (length l.values - l.end)
