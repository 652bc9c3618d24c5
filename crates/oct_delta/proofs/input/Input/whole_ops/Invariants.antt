use Rattle.std.proofs.Common.{◌≡◌, ◌-◌, length}
use Rattle.oct_delta.specs.Reading.{with_front}
use Rattle.oct_delta.specs.Streaming.{whole_at, last_of}
use Rattle.oct_delta.proofs.input.Input.whole_ops.Given as goal

abbrev pub invariant-loop : goal.invariant-loop
invariant-loop g l = record {
  len : length l.ops.items ≡ l.counter;
  read : with_front l.ops.items (whole_at l.limit (last_of l.ops.items) (l.count - l.counter) l.self)
      ≡ with_front l.fn.ops.items (whole_at l.limit (last_of l.fn.ops.items) (l.count - length l.fn.ops.items) l.fn.self);
}
