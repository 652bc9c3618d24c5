use Rattle.std.proofs.Common.{◌≡◌, ◌-◌}
use Rattle.oct_ops.specs.DotOrder.{dot_cmp}
use Rattle.oct_delta.specs.Reading.{skipped, chain_at, next_at, dot_at, dots_at}
use Rattle.oct_delta.proofs.input.Input.skip_dots.Given as goal

abbrev pub invariant-loop : goal.invariant-loop
invariant-loop l = skipped (chain_at (next_at dot_cmp dot_at) l.before (l.count - l.counter) l.self) ≡ skipped (dots_at l.count l.fn.self)
