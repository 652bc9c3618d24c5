use Rattle.std.proofs.Common.{ap, ◌∙◌}
use Rattle.oct_verify.specs.Filing.{blocks_in}
use Rattle.oct_period.specs.Claims.{claims_in}
use Rattle.oct_period.specs.Outcomes.{outcome_by}
use Rattle.oct_period.specs.Periods.{position_value}
use Rattle.oct_period.proofs.Winners.{told_by_value, says}
use Rattle.oct_period.proofs.game.Game.outcome.Goals as goal

pub returns-clause-value : goal.returns-clause-value
returns-clause-value g c =
    let code = c.args.self.now.code in
    let heaps = c.args.heaps.now in
    c.outcome_of.ensures ∙ told_by_value code heaps c.position_value.result c.position_value.ensures.right ∙ ap (outcome_by code heaps) c.position_value.ensures.value

pub returns-clause-play : goal.returns-clause-play
returns-clause-play g c =
    let game = c.args.self.now in
    says game.code c.args.heaps.now c.outcome_of.result (position_value game.code (blocks_in game.blocks) (claims_in game.claims) c.args.heaps.now) (returns-clause-value g c)
