use Rattle.std.proofs.Common.{ap, sym, ◌∙◌}
use Rattle.oct_ops.specs.SetLaws.{listed-empty}
use Rattle.oct_period.specs.Claims.{claims_in, is_claimed, periods_of}
use Rattle.oct_period.specs.ClaimLaws.{claim_cmp_total, claim_cmp_exact}
use Rattle.oct_period.specs.GameContent.{GameContent}
use Rattle.oct_replica.specs.Beside.{content_in}
use Rattle.oct_replica.proofs.Beside.{found_is, none_is}
use Rattle.oct_replica.proofs.replica.Replica.claims_period.Goals as goal

pub returns-in-Some : goal.returns-in-Some
returns-in-Some g c =
    c.claims_period.ensures
    ∙ ap (λ (h : GameContent). is_claimed (claims_in h.claims) c.args.period.now) (found_is c.args.self.now.ops c.code.result c.in-Some.game.now c.in-Some.ensures)
    ∙ ap (λ d. is_claimed (claims_in (content_in c.args.self.now.ops d).claims) c.args.period.now) c.code.ensures.value

pub returns-in-None : goal.returns-in-None
returns-in-None g c =
    sym (ap (λ xs. is_claimed (periods_of xs) c.args.period.now) (listed-empty claim_cmp_total claim_cmp_exact))
    ∙ ap (λ (h : GameContent). is_claimed (claims_in h.claims) c.args.period.now) (none_is c.args.self.now.ops c.code.result c.in-None.ensures)
    ∙ ap (λ d. is_claimed (claims_in (content_in c.args.self.now.ops d).claims) c.args.period.now) c.code.ensures.value
