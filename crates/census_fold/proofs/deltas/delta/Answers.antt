use Rattle.std.proofs.Common.{◌∙◌}
use Rattle.std.proofs.lemmas.Result.{IfErr-weaker, IfOk-weaker}
use Rattle.census_state.proofs.Stepping.{then_with}
use Rattle.census_fold.proofs.deltas.delta.Goals as goal

pub returns-clause-ok : goal.returns-clause-ok
returns-clause-ok c = IfOk-weaker c.delta_reply.result _ _ (λ reply done. then_with _ _ _ c.in_ok-held.ensures.ok ∙ done) c.delta_reply.ensures.ok

pub returns-clause-err : goal.returns-clause-err
returns-clause-err c = IfErr-weaker c.delta_reply.result _ _ (λ e done other. then_with _ _ _ c.in_ok-held.ensures.ok ∙ done other) c.delta_reply.ensures.err
