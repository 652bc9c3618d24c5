use Rattle.std.proofs.Common.{refl, ◌∙◌}
use Rattle.std.proofs.lemmas.Result.{IfErr-weaker, IfOk-weaker}
use Rattle.oct_ops.specs.Views.{content}
use Rattle.census_issue.proofs.Stepping.{issued_as, not_issued}
use Rattle.census_issue.proofs.issuing.issue.Goals as goal

pub returns-in-Ok-clause-ok : goal.returns-in-Ok-clause-ok
returns-in-Ok-clause-ok c =
    IfOk-weaker c.save.result _ _ (λ reply done. issued_as c.args.said _ (content c.args.body) _ _ c.in-Ok.ensures.room c.in-Ok.ensures.ok c.in-Ok.ensures.dot c.in_ok-text-in-Ok.ensures ∙ done) c.save.ensures.ok

pub returns-in-Ok-clause-err : goal.returns-in-Ok-clause-err
returns-in-Ok-clause-err c =
    IfErr-weaker c.save.result _ _ (λ e done other. issued_as c.args.said _ (content c.args.body) _ _ c.in-Ok.ensures.room c.in-Ok.ensures.ok c.in-Ok.ensures.dot c.in_ok-text-in-Ok.ensures ∙ done other) c.save.ensures.err

pub returns-clause-err : goal.returns-clause-err
returns-clause-err c = rw c.from.ensures (λ other. not_issued c.args.said (content c.args.body) _ _ refl c.in-Err.ensures.error other)
