use Rattle.std.proofs.Common.{ap, sym, ◌∙◌}
use Rattle.std.proofs.lemmas.Result.{IfErr-weaker, IfOk-weaker, err_from_is_err_and}
use Rattle.oct_ops.specs.Operation.{repeating}
use Rattle.census_issue.specs.Issuing.{claim_of}
use Rattle.census_state.specs.Steps.{because, unless}
use Rattle.census_state.specs.declared.fault.Fault.TheVariants as fault
use Rattle.census_state.proofs.Stepping.{allowed, stopped, then_with}
use Rattle.census_issue.proofs.issuing.period.Goals as goal

pub returns-in_err-claim-clause-err : goal.returns-in_err-claim-clause-err
returns-in_err-claim-clause-err c =
    let p = err_from_is_err_and c.from_residual-in_err-claim.result c.from_residual-in_err-claim.ensures.1 in
    let claim = repeating c.in_ok-code.code c.args.start c.args.period in
    rw (p.1, p.2) (λ other. then_with _ _ _ c.in_ok-said.ensures.ok ∙ then_with _ _ _ (ap (because fault.Code) (sym c.read_code.ensures ∙ c.in_ok-code.was)) ∙ stopped (claim_of c.in_ok-code.code c.args.start c.args.period) _ _ (ap (λ found. because fault.Period (unless found claim)) c.in_err-claim.ensures.fault))

pub returns-clause-ok : goal.returns-clause-ok
returns-clause-ok c =
    IfOk-weaker c.issue.result _ _ (λ reply done. then_with _ _ _ c.in_ok-said.ensures.ok ∙ then_with _ _ _ (ap (because fault.Code) (sym c.read_code.ensures ∙ c.in_ok-code.was)) ∙ then_with _ _ _ (allowed _ _ _ _ c.in_ok-claim.ensures.accepted c.in_ok-claim.ensures.ok) ∙ done) c.issue.ensures.ok

pub returns-clause-err : goal.returns-clause-err
returns-clause-err c =
    IfErr-weaker c.issue.result _ _ (λ e done other. then_with _ _ _ c.in_ok-said.ensures.ok ∙ then_with _ _ _ (ap (because fault.Code) (sym c.read_code.ensures ∙ c.in_ok-code.was)) ∙ then_with _ _ _ (allowed _ _ _ _ c.in_ok-claim.ensures.accepted c.in_ok-claim.ensures.ok) ∙ done other) c.issue.ensures.err
