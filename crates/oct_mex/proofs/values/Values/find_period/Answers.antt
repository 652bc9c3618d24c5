use Rattle.std.proofs.Common.{IfSome, MatchOption, ap, subst₂, ◌∙◌}
use Rattle.oct_mex.specs.Held.{Held}
use Rattle.oct_mex.specs.Periods.{NoneIsShown, NoneIsShownBefore}
use Rattle.oct_mex.proofs.values.Values.find_period.Goals as goal

pub returns-clause-least : goal.returns-clause-least
returns-clause-least g c =
    subst₂ (λ d k. MatchOption c.find_period.result (NoneIsShown d k k) (λ seen. NoneIsShown d k seen.period)) (ap (λ (k : Held). k.code) c.self.view_is)
    (c.deref.ensures.len ∙ ap (λ (k : Held). k.len) c.self.view_is) c.find_period.ensures.least

pub returns-clause-earliest : goal.returns-clause-earliest
returns-clause-earliest g c =
    subst₂ (λ d k. IfSome c.find_period.result (λ seen. NoneIsShownBefore d k seen.start seen.period)) (ap (λ (k : Held). k.code) c.self.view_is)
    (c.deref.ensures.len ∙ ap (λ (k : Held). k.len) c.self.view_is) c.find_period.ensures.earliest
