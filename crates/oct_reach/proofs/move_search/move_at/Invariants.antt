use Rattle.std.proofs.Common.{◌≡◌, ◌<◌, ℕ, None}
use Rattle.std.specs.List.{find}
use Rattle.oct_period.specs.Moving.{has_value, moves_removing}
use Rattle.oct_period.specs.declared.moving.Move.{Move}
use Rattle.oct_reach.proofs.move_search.move_at.Given as goal

abbrev pub invariant-loop-removed : goal.invariant-loop-removed
invariant-loop-removed g l = (k : ℕ) → k < l.removed → find (λ (m : Move). has_value l.game.code l.wanted m.left) (moves_removing l.game.code l.index l.heap k) ≡ None
