use Rattle.std.proofs.Common.{◌≡◌, ◌≤◌, ◌-◌, vec_len, vec_capacity}
use Rattle.oct_delta.specs.Reading.{with_front, numbers_at}
use Rattle.oct_delta.proofs.input.Input.numbers.Given as goal

abbrev pub invariant-loop : goal.invariant-loop
invariant-loop g l = record {
  read : with_front l.numbers.items (numbers_at (l.count - l.counter) l.self) ≡ numbers_at l.count l.fn.self;
  len : vec_len l.numbers ≡ l.counter;
  room : l.count ≤ vec_capacity l.numbers;
}
