use Rattle.std.proofs.Common.{◌≡◌}
use Rattle.oct_period.specs.Claims.{claims_in, is_claimed, periods_of}
use Rattle.oct_period.proofs.game.Game.claims_period.Given as goal

-- it is among the claims that are left exactly where it is among all
abbrev pub invariant-loop-claim : goal.invariant-loop-claim
invariant-loop-claim g l = is_claimed (periods_of l.claim-iterator) l.period ≡ is_claimed (claims_in l.self.claims) l.period
