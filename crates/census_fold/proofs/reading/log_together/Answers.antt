use Rattle.std.proofs.Common.{Ok, sym, ap, ◌∙◌}
use Rattle.oct_log.specs.Log.{log_text}
use Rattle.oct_ops.specs.Operations.{Operations, listed}
use Rattle.census_state.proofs.Stepping.{then_with}
use Rattle.census_fold.proofs.reading.log_together.Goals as goal

pub returns-clause-ok : goal.returns-clause-ok
returns-clause-ok c =
    then_with _ _ _ c.in_ok-all.ensures.ok
    ∙ ap Ok (sym (c.in_ok-text.ensures ∙ ap (λ (ops : Operations). log_text c.args.wanted.now (listed ops)) c.as_record.ensures))
