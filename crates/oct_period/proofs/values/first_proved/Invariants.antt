use Rattle.std.proofs.Common.{◌≡◌, drop}
use Rattle.oct_period.specs.Claims.{first_proved}
use Rattle.oct_verify.specs.Filing.{blocks_in}
use Rattle.oct_period.proofs.values.first_proved.Given as goal

abbrev pub invariant-loop-claim : goal.invariant-loop-claim
invariant-loop-claim g l = first_proved (blocks_in l.ledger.blocks) (drop l.claim-index l.claims) ≡ first_proved (blocks_in l.ledger.blocks) l.claims
