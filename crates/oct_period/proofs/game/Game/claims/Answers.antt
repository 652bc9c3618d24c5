use Rattle.std.proofs.Common.{sym, ap, ◌∙◌, subst}
use Rattle.oct_ops.specs.Sets as sets
use Rattle.oct_ops.specs.SetLaws.{listed-keys}
use Rattle.oct_period.specs.Claims.{AreOfGame}
use Rattle.oct_period.specs.ClaimLaws.{claim_cmp_total, claim_cmp_exact}
use Rattle.oct_period.specs.GameContent.{GameContent}
use Rattle.oct_period.proofs.Added.{listed_of}
use Rattle.oct_period.proofs.game.Game.claims.Goals as goal

pub returns-clause-value : goal.returns-clause-value
returns-clause-value g c =
    c.iter.ensures.rest ∙ sym (listed-keys claim_cmp_total claim_cmp_exact c.self.inside.claims c.self.invariant.sorted)
    ∙ ap (λ (h : GameContent). sets.listed h.claims) c.self.view_is

pub returns-clause-game : goal.returns-clause-game
returns-clause-game g c =
    subst (λ (h : GameContent). AreOfGame h.code (sets.listed h.claims)) c.self.view_is
    (listed_of c.self.inside.ledger.code (sets.set_of c.self.inside.claims.keys) c.self.invariant.claims)
