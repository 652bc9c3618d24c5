use Rattle.std.proofs.Common.{sym, ap, ◌∙◌, subst}
use Rattle.oct_sync.specs.SessionState.{IsSessionStateIf, standing_if}
use Rattle.oct_sync.specs.Standing.{StandsAt}
use Rattle.oct_sync.proofs.Stepping.{wanted_at}
use Rattle.oct_sync.proofs.session.Session.wanted.Goals as goal

pub returns-in-Some-clause-value : goal.returns-in-Some-clause-value
returns-in-Some-clause-value g c role held sent p at =
    c.wanted.ensures.value
    ∙ wanted_at c.self.inside.role role c.in-Some.state held sent p (subst IsSessionStateIf c.in-Some.is c.self.invariant)
    (subst (λ s. StandsAt role s held sent p) (sym c.self.view_is ∙ ap (standing_if c.self.inside.role) c.in-Some.is) at)
