use Rattle.std.proofs.Common.{sym, ap, ◌∙◌}
use Rattle.std.proofs.lemmas.Result.{IfErr-weaker, IfOk-weaker}
use Rattle.oct_ops.specs.Operations.{listed}
use Rattle.census_fold.specs.Deltas.{delta_of}
use Rattle.census_state.proofs.Stepping.{then_with}
use Rattle.census_state.specs.Alone.{only_of}
use Rattle.census_fold.proofs.deltas.delta_of_games.Goals as goal

pub returns-clause-ok : goal.returns-clause-ok
returns-clause-ok c = IfOk-weaker c.part_reply.result _ _ (λ reply done.
    then_with _ _ _ c.in_ok-held.ensures.ok ∙ then_with _ _ _ c.in_ok-named.ensures.ok
    ∙ ap (λ ops. delta_of (listed ops)) (sym (c.as_record.ensures ∙ c.in_ok-part.ensures ∙ ap (λ named. only_of named c.in_ok-held.held.ops) c.deref.ensures.value)) ∙ done) c.part_reply.ensures.ok

pub returns-clause-err : goal.returns-clause-err
returns-clause-err c = IfErr-weaker c.part_reply.result _ _ (λ e done other.
    then_with _ _ _ c.in_ok-held.ensures.ok ∙ then_with _ _ _ c.in_ok-named.ensures.ok
    ∙ ap (λ ops. delta_of (listed ops)) (sym (c.as_record.ensures ∙ c.in_ok-part.ensures ∙ ap (λ named. only_of named c.in_ok-held.held.ops) c.deref.ensures.value)) ∙ done other) c.part_reply.ensures.err
