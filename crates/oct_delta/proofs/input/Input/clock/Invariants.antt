use Rattle.std.proofs.Common.{◌≡◌, ◌-◌, None}
use Rattle.oct_join.specs.Clock.{entries}
use Rattle.oct_delta.specs.Reading.{with_front, chain_at, next_at}
use Rattle.oct_delta.specs.Clocks.{author_cmp, entry_at}
use Rattle.oct_delta.proofs.ClockTexts.{AreUpTo}
use Rattle.oct_delta.proofs.input.Input.clock.Given as goal

abbrev pub invariant-loop : goal.invariant-loop
invariant-loop g l = record {
  read : with_front (entries l.clock) (chain_at (next_at author_cmp entry_at) l.before (l.count - l.counter) l.self) ≡ chain_at (next_at author_cmp entry_at) None l.count l.fn.self;
  up : AreUpTo l.before (entries l.clock);
}
