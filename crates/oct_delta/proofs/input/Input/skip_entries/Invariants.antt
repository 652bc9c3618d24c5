use Rattle.std.proofs.Common.{◌≡◌, ◌-◌, None}
use Rattle.oct_delta.specs.Reading.{skipped, chain_at, next_at}
use Rattle.oct_delta.specs.Clocks.{author_cmp, entry_at}
use Rattle.oct_delta.proofs.input.Input.skip_entries.Given as goal

abbrev pub invariant-loop : goal.invariant-loop
invariant-loop l = skipped (chain_at (next_at author_cmp entry_at) l.before (l.count - l.counter) l.self) ≡ skipped (chain_at (next_at author_cmp entry_at) None l.count l.fn.self)
