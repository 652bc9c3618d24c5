use Rattle.std.proofs.Common.{◌+◌, ◌/◌, Some, min, ap, ap₂, subst, sym, ◌∙◌}
use Rattle.oct_mex.specs.Periods.{IsPeriodicFrom}
use Rattle.oct_verify.specs.Filing.{blocks_in}
use Rattle.oct_period.specs.Moving.{AreNear}
use Rattle.oct_period.specs.Proved.{IsProvedBy, IsProvedOf}
use Rattle.oct_period.proofs.FirstBreaks.{valid_later, valid_period}
use Rattle.oct_period.proofs.NearSplits.{all_near, period_near}
use Rattle.oct_period.proofs.Statuses.{proved_holds}
use Rattle.oct_period.proofs.move_search.splits_end.Goals as goal

pub returns-in-Some-clause-near : goal.returns-in-Some-clause-near
returns-in-Some-clause-near g c =
    let ledger = c.args.ledger.now in
    let claim = c.claim.inside.period in
    let proved : IsProvedOf ledger.code (blocks_in ledger.blocks) claim = subst (IsProvedBy ledger.code (blocks_in ledger.blocks)) (c.in-Some.is ∙ ap Some (sym c.claim.view_is)) c.requires in
    let later = valid_later claim c.start.ensures.valid in
    let holds : IsPeriodicFrom ledger.code claim.start claim.period = subst (λ d. IsPeriodicFrom d claim.start claim.period) proved.game (proved_holds (blocks_in ledger.blocks) claim later proved.proved) in
    let end = ap₂ (λ s p. min (c.args.rest / 2 + 1) (s + p)) (c.from.ensures ∙ c.start.ensures.value) (c.from-in-Some.ensures ∙ c.period.ensures.value) in
    subst (AreNear ledger.code c.args.rest) (sym (c.min.ensures ∙ end)) (period_near ledger.code claim.start claim.period c.args.rest holds later (valid_period claim c.period.ensures.valid))

pub returns-in-None-clause-near : goal.returns-in-None-clause-near
returns-in-None-clause-near g c = all_near c.args.ledger.now.code c.args.rest
