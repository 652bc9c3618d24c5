use Rattle.std.proofs.Common.{◌≡◌, ◌≢◌, ◌-◌, ◌<◌, ◌≤◌, ℕ, map, slice_index}
use Rattle.oct_mex.proofs.period.next_return.Given as goal

abbrev pub invariant-loop-next : goal.invariant-loop-next
invariant-loop-next g l = record {
  behind : l.period ≤ l.next;
  within : l.next ≤ l.end;
  none : (p : ℕ) → l.period ≤ p → p < l.next → slice_index (map g.T.Cell.number l.values) l.place ≢ slice_index (map g.T.Cell.number l.values) (l.place - p);
}

abbrev pub decreases-loop-next : goal.decreases-loop-next
decreases-loop-next g l = l.end - l.next

abbrev pub invariant-loop-next-2 : goal.invariant-loop-next-2
invariant-loop-next-2 g l = record {
  behind : l.period ≤ l.next;
  within : l.next ≤ l.end;
  none : (p : ℕ) → l.period ≤ p → p < l.next → slice_index (map g.T.Cell.number l.values) l.place ≢ slice_index (map g.T.Cell.number l.values) (l.place - p);
}

abbrev pub decreases-loop-next-2 : goal.decreases-loop-next-2
decreases-loop-next-2 g l = l.end - l.next
