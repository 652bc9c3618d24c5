use Rattle.std.proofs.Common.{◌≡◌, ◌+◌, ◌-◌, ◌<◌, ◌≤◌, ℕ, map, slice_index}
use Rattle.oct_mex.proofs.period.first_break.Given as goal

abbrev pub invariant-loop-from : goal.invariant-loop-from
invariant-loop-from g l = record {
  first : l.start ≤ l.from;
  within : l.from ≤ l.end;
  again : (n : ℕ) → l.start ≤ n → n < l.from → slice_index (map g.T.Cell.number l.values) (n + l.period) ≡ slice_index (map g.T.Cell.number l.values) n;
}

abbrev pub decreases-loop-from : goal.decreases-loop-from
decreases-loop-from g l = l.end - l.from

abbrev pub invariant-loop-heap : goal.invariant-loop-heap
invariant-loop-heap g l = (n : ℕ) → l.start ≤ n → n < l.heap → slice_index (map g.T.Cell.number l.values) (n + l.period) ≡ slice_index (map g.T.Cell.number l.values) n
