use Rattle.std.proofs.Common.{◌∙◌}
use Rattle.std.proofs.lemmas.Result.{IfErr-weaker, IfOk-weaker, err_from_is_err_and}
use Rattle.census_state.proofs.Stepping.{allowed, stopped, then_with}
use Rattle.census_issue.proofs.Stepping.{not_removed}
use Rattle.census_issue.proofs.issuing.unnote.Goals as goal

pub returns-in_err-removal-clause-err : goal.returns-in_err-removal-clause-err
returns-in_err-removal-clause-err c =
    let p = err_from_is_err_and c.from_residual-in_err-removal.result c.from_residual-in_err-removal.ensures.1 in
    rw (p.1, p.2) (λ other. then_with _ _ _ c.in_ok-said.ensures.ok ∙ stopped _ _ _ (not_removed c.in_ok-said.said c.args.name.now _ c.in_err-removal.ensures.error other))

pub returns-clause-ok : goal.returns-clause-ok
returns-clause-ok c =
    IfOk-weaker c.issue.result _ _ (λ reply done. then_with _ _ _ c.in_ok-said.ensures.ok ∙ then_with _ _ _ (allowed _ _ _ _ c.in_ok-removal.ensures.accepted c.in_ok-removal.ensures.ok) ∙ done) c.issue.ensures.ok

pub returns-clause-err : goal.returns-clause-err
returns-clause-err c =
    IfErr-weaker c.issue.result _ _ (λ e done other. then_with _ _ _ c.in_ok-said.ensures.ok ∙ then_with _ _ _ (allowed _ _ _ _ c.in_ok-removal.ensures.accepted c.in_ok-removal.ensures.ok) ∙ done other) c.issue.ensures.err
