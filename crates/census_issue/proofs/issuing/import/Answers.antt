use Rattle.std.proofs.Common.{◌∙◌}
use Rattle.std.proofs.lemmas.Result.{IfErr-weaker, IfOk-weaker, err_from_is_err_and}
use Rattle.census_state.proofs.Stepping.{stopped, then_with}
use Rattle.census_issue.proofs.issuing.import.Goals as goal

pub returns-in_err-block-clause-err : goal.returns-in_err-block-clause-err
returns-in_err-block-clause-err c =
    let p = err_from_is_err_and c.from_residual-in_err-block.result c.from_residual-in_err-block.ensures.1 in
    rw (p.1, p.2) (λ other. then_with _ _ _ c.in_ok-said.ensures.ok ∙ stopped _ _ _ (c.in_err-block.ensures.err other))

pub returns-clause-ok : goal.returns-clause-ok
returns-clause-ok c =
    IfOk-weaker c.issue.result _ _ (λ reply done. then_with _ _ _ c.in_ok-said.ensures.ok ∙ then_with _ _ _ c.in_ok-block.ensures.ok ∙ done) c.issue.ensures.ok

pub returns-clause-err : goal.returns-clause-err
returns-clause-err c =
    IfErr-weaker c.issue.result _ _ (λ e done other. then_with _ _ _ c.in_ok-said.ensures.ok ∙ then_with _ _ _ c.in_ok-block.ensures.ok ∙ done other) c.issue.ensures.err
