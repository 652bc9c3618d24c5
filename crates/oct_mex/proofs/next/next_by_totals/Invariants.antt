use Rattle.std.proofs.Common.{◌+◌, ◌-◌, ◌<◌, ◌≤◌, ◌≡◌, ℕ, map, length}
use Rattle.oct_mex.specs.Marks.{IsMarked}
use Rattle.std.specs.List.{All}
use Rattle.oct_mex.specs.Totals.{HasTotals, IsLong, IsTable}
use Rattle.oct_mex.proofs.next.next_by_totals.Given as goal

abbrev pub invariant-loop-end : goal.invariant-loop-end
invariant-loop-end g l = record {
  some : 1 ≤ l.end;
  size : length l.marks ≡ length l.fn.marks;
  has : HasTotals l.code (map g.T.Cell.number l.values) (length l.values) l.mask l.end l.marks;
  count : length l.tables ≡ length l.fn.tables;
  long : All (IsLong (length l.fn.marks)) l.tables;
  kept : All (IsTable l.mask (map g.T.Cell.number l.values)) l.tables;
  within : l.least ≤ length l.marks;
  marked : (v : ℕ) → v < l.least → IsMarked l.marks v;
  unmarked : l.least < length l.marks → IsMarked l.marks l.least → ⊥;
}

-- values that may be sought, and pairs that may be marked
abbrev pub decreases-loop-end : goal.decreases-loop-end
decreases-loop-end g l = (length l.marks - l.least) + (length l.values - l.end)
