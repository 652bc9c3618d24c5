use Rattle.std.proofs.Common.{◌≡◌, sym, ap, ◌∙◌}
use Rattle.std.proofs.lemmas.List.Elements.{All-rest}
use Rattle.oct_ops.specs.Sets as sets
use Rattle.oct_period.specs.Claims.{Claim}
use Rattle.oct_period.specs.GameContent.{GameContent}
use Rattle.oct_period.specs.Periods.{is_proved, period_status}
use Rattle.oct_verify.specs.Filing.{blocks_in}
use Rattle.oct_period.proofs.FirstProved.{not_first}
use Rattle.oct_period.proofs.game.Game.proved_claim.Goals as goal

pub loop-claim-preserved : goal.loop-claim-preserved
loop-claim-preserved g c =
    let game = c.args.self.now in
    let claim : Claim = c.in-Some.claim.now in
    record {
      first =
          not_first (λ (d : Claim). is_proved (period_status (blocks_in game.blocks) d.1)) _ c.next.new.self (sets.listed game.claims) claim c.in-Some.ensures.steps c.loop-claim.invariant.first
          (ap (λ (h : GameContent). is_proved (period_status (blocks_in h.blocks) claim.1)) (sym c.self.view_is) ∙ sym c.is_proved.ensures.value ∙ c.if-is_proved.false);
      game = All-rest (λ (d : Claim). d.1.code ≡ game.code) claim c.next.new.self _ c.in-Some.ensures.steps c.loop-claim.invariant.game;
    }
