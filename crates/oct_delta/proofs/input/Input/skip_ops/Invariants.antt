use Rattle.std.proofs.Common.{◌≡◌, ◌-◌, Option}
use Rattle.oct_ops.specs.Body.{Operation}
use Rattle.oct_delta.specs.Reading.{chain_at, next_op_at, ops_at, skipped}
use Rattle.oct_delta.proofs.Rising.{IsTextOf}
use Rattle.oct_delta.proofs.input.Input.skip_ops.Given as goal

abbrev pub invariant-loop : goal.invariant-loop
invariant-loop l = (before : Option Operation) × IsTextOf l.limit before l.previous × (skipped (chain_at (next_op_at l.limit) before (l.count - l.counter) l.self) ≡ skipped (ops_at l.limit l.count l.fn.self))
