use Rattle.std.proofs.Common.{◌≡◌}
use Rattle.oct_ops.specs.Sets as sets
use Rattle.oct_period.specs.Claims.{AreOfGame, first_proved}
use Rattle.oct_verify.specs.Filing.{blocks_in}
use Rattle.oct_period.proofs.game.Game.proved_claim.Given as goal

abbrev pub invariant-loop-claim : goal.invariant-loop-claim
invariant-loop-claim g l = record {
  first : first_proved (blocks_in l.self.blocks) l.claim-iterator ≡ first_proved (blocks_in l.self.blocks) (sets.listed l.self.claims);
  game : AreOfGame l.self.code l.claim-iterator;
}
