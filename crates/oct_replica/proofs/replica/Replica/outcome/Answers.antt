use Rattle.std.proofs.Common.{ap, ◌∙◌, subst}
use Rattle.oct_verify.specs.Filing.{blocks_in}
use Rattle.oct_period.specs.Claims.{claims_in}
use Rattle.oct_period.specs.GameContent.{GameContent}
use Rattle.oct_period.specs.Outcomes.{outcome, IsOutcomeOf}
use Rattle.oct_period.specs.Periods.{position_value}
use Rattle.oct_replica.proofs.Beside.{found_is, none_is}
use Rattle.oct_replica.proofs.replica.Replica.outcome.Goals as goal

pub returns-in-Some-clause-value : goal.returns-in-Some-clause-value
returns-in-Some-clause-value g c =
    c.outcome.ensures.value
    ∙ ap (λ (h : GameContent). outcome h.code (blocks_in h.blocks) (claims_in h.claims) c.args.heaps.now) (found_is c.args.self.now.ops c.args.code c.in-Some.game.now c.in-Some.ensures)

pub returns-in-Some-clause-play : goal.returns-in-Some-clause-play
returns-in-Some-clause-play g c =
    subst (λ (h : GameContent). IsOutcomeOf h.code c.args.heaps.now (position_value h.code (blocks_in h.blocks) (claims_in h.claims) c.args.heaps.now) c.outcome.result)
    (found_is c.args.self.now.ops c.args.code c.in-Some.game.now c.in-Some.ensures) c.outcome.ensures.play

pub returns-in-None-clause-value : goal.returns-in-None-clause-value
returns-in-None-clause-value g c =
    c.outcome-in-None.ensures.value
    ∙ ap (λ (h : GameContent). outcome h.code (blocks_in h.blocks) (claims_in h.claims) c.args.heaps.now) (c.new-game.ensures ∙ none_is c.args.self.now.ops c.args.code c.in-None.ensures)

pub returns-in-None-clause-play : goal.returns-in-None-clause-play
returns-in-None-clause-play g c =
    subst (λ (h : GameContent). IsOutcomeOf h.code c.args.heaps.now (position_value h.code (blocks_in h.blocks) (claims_in h.claims) c.args.heaps.now) c.outcome-in-None.result)
    (c.new-game.ensures ∙ none_is c.args.self.now.ops c.args.code c.in-None.ensures) c.outcome-in-None.ensures.play
