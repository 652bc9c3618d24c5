use Rattle.std.proofs.Common.{◌≡◌, ◌-◌, ◌<◌, ◌≤◌, ℕ, false}
use Rattle.oct_period.specs.Moving.{has_value}
use Rattle.oct_reach.proofs.move_search.split_of.Given as goal

abbrev pub invariant-loop-a : goal.invariant-loop-a
invariant-loop-a g l = (k : ℕ) → 1 ≤ k → k < l.a → has_value l.game.code l.wanted (k, l.rest - k) ≡ false
