use Rattle.std.proofs.Common.{◌≡◌, Some, sym, ap, ◌∙◌, subst, arith}
use Rattle.oct_ops.specs.Sets as sets
use Rattle.oct_period.specs.Claims.{Claim, AreOfGame, first_proved, claims_in}
use Rattle.oct_period.specs.GameContent.{GameContent}
use Rattle.oct_period.specs.Proved.{IsProvedOf}
use Rattle.oct_verify.specs.Filing.{blocks_in}
use Rattle.oct_verify.specs.Known.{known}
use Rattle.oct_period.proofs.Added.{listed_of}
use Rattle.oct_period.proofs.FarLaws.{found_proved, found_has, none_has, far_settled, far_waits}
use Rattle.oct_period.proofs.game.Game.block_status_by.Goals as goal

pub verdict_by-requires-clause-proved : goal.verdict_by-requires-clause-proved
verdict_by-requires-clause-proved g c =
    let game = c.args.self.now in
    let each : AreOfGame game.code (sets.listed game.claims) =
    subst (λ (h : GameContent). AreOfGame h.code (sets.listed h.claims)) c.self.view_is (listed_of c.self.inside.ledger.code (sets.set_of c.self.inside.claims.keys) c.self.invariant.claims) in
    let claim : Claim = (c.claim.inside.dot, c.claim.inside.period) in
    let found : Some claim ≡ first_proved (blocks_in game.blocks) (sets.listed game.claims) = ap Some c.claim.view_is ∙ sym c.in-Some.is ∙ c.requires.first in
    subst (λ (h : GameContent). IsProvedOf h.code (blocks_in h.blocks) c.claim.inside.period) (sym c.self.view_is)
    (found_proved (blocks_in game.blocks) game.code (sets.listed game.claims) claim found each)

pub returns-in-Some : goal.returns-in-Some
returns-in-Some g c =
    let game = c.args.self.now in
    c.verdict_by.ensures
    ∙ sym (far_settled (blocks_in game.blocks) (claims_in game.claims) c.args.block.now (found_has (blocks_in game.blocks) (sets.listed game.claims) c.in-Some.claim (sym c.in-Some.is ∙ c.requires.first)))

pub returns-in-None : goal.returns-in-None
returns-in-None g c =
    let game = c.args.self.now in
    let known_is = c.known.ensures.value ∙ ap (λ (h : GameContent). known (blocks_in h.blocks)) c.self.view_is in
    sym (far_waits (blocks_in game.blocks) (claims_in game.claims) c.args.block.now (omega (arith, known_is, c.start.ensures.value))
    (none_has (blocks_in game.blocks) (sets.listed game.claims) (sym c.in-None.is ∙ c.requires.first)))
