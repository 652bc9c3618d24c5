use Rattle.std.proofs.Common.{ap₂, sym, ◌∙◌}
use Rattle.std.specs.Ordering.{ordering_then}
use Rattle.oct_code.proofs.Reading.{cmp_differs, cmp_ties}
use Rattle.oct_code.proofs.code.CodeOrd.cmp.Goals as goal

pub returns-in-Equal : goal.returns-in-Equal
returns-in-Equal c =
    let parts = c.then.ensures ∙ ap₂ ordering_then c.cmp.ensures c.cmp-2.ensures in
    c.cmp-in-Equal.ensures ∙ cmp_ties _ _ _ _ c.self.invariant c.other.invariant c.self.view_is c.other.view_is (sym parts ∙ c.in-Equal.is)

pub returns-in_default : goal.returns-in_default
returns-in_default c =
    let parts = c.then.ensures ∙ ap₂ ordering_then c.cmp.ensures c.cmp-2.ensures in
    parts ∙ cmp_differs _ _ _ _ c.self.invariant c.other.invariant c.self.view_is c.other.view_is (λ tie. c.in_default.not-Equal (parts ∙ tie))
