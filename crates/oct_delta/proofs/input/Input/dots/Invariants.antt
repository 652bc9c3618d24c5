use Rattle.std.proofs.Common.{◌≡◌, ◌≤◌, ◌-◌, vec_len, vec_capacity}
use Rattle.oct_ops.specs.DotOrder.{dot_cmp}
use Rattle.oct_delta.specs.Reading.{with_front, chain_at, next_at, dot_at, dots_at}
use Rattle.oct_delta.proofs.input.Input.dots.Given as goal

abbrev pub invariant-loop : goal.invariant-loop
invariant-loop g l = record {
  read : with_front l.dots.items (chain_at (next_at dot_cmp dot_at) l.before (l.count - l.counter) l.self) ≡ dots_at l.count l.fn.self;
  len : vec_len l.dots ≡ l.counter;
  room : l.count ≤ vec_capacity l.dots;
}
