use Rattle.std.proofs.Common.{◌≡◌, IfOk, ap, subst, ◌∙◌}
use Rattle.oct_mex.specs.NimValues.{position_value as nim_sum}
use Rattle.oct_verify.specs.Filing.{blocks_in}
use Rattle.oct_period.specs.Claims.{claims_in}
use Rattle.oct_period.specs.GameContent.{GameContent}
use Rattle.oct_period.specs.Periods.{position_value}
use Rattle.oct_replica.proofs.Beside.{found_is, none_is}
use Rattle.oct_replica.proofs.replica.Replica.position_value.Goals as goal

pub returns-in-Some-clause-value : goal.returns-in-Some-clause-value
returns-in-Some-clause-value g c =
    c.position_value.ensures.value
    ∙ ap (λ (h : GameContent). position_value h.code (blocks_in h.blocks) (claims_in h.claims) c.args.heaps.now) (found_is c.args.self.now.ops c.args.code c.in-Some.game.now c.in-Some.ensures)

pub returns-in-None-clause-value : goal.returns-in-None-clause-value
returns-in-None-clause-value g c =
    c.position_value-in-None.ensures.value
    ∙ ap (λ (h : GameContent). position_value h.code (blocks_in h.blocks) (claims_in h.claims) c.args.heaps.now) (c.new-game.ensures ∙ none_is c.args.self.now.ops c.args.code c.in-None.ensures)

pub returns-in-Some-clause-right : goal.returns-in-Some-clause-right
returns-in-Some-clause-right g c =
    subst (λ (h : GameContent). IfOk c.position_value.result (λ value. value ≡ nim_sum h.code c.args.heaps.now))
    (found_is c.args.self.now.ops c.args.code c.in-Some.game.now c.in-Some.ensures) c.position_value.ensures.right

pub returns-in-None-clause-right : goal.returns-in-None-clause-right
returns-in-None-clause-right g c =
    subst (λ (h : GameContent). IfOk c.position_value-in-None.result (λ value. value ≡ nim_sum h.code c.args.heaps.now))
    (c.new-game.ensures ∙ none_is c.args.self.now.ops c.args.code c.in-None.ensures) c.position_value-in-None.ensures.right
