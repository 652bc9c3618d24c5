use Rattle.std.proofs.Common.{Ok, sym, ap, ◌∙◌}
use Rattle.oct_log.specs.Diff.{diff_text}
use Rattle.census_fold.specs.Digests.{operations_in}
use Rattle.census_state.specs.Steps.{◌>>=◌}
use Rattle.census_fold.proofs.reading.diff.Goals as goal

pub returns-clause-ok : goal.returns-clause-ok
returns-clause-ok c =
    ap (λ found. found >>= λ a. operations_in c.args.other.now >>= λ b. Ok (diff_text a b)) c.in_ok-one.ensures.ok
    ∙ ap (λ found. found >>= λ b. Ok (diff_text c.in_ok-one.one b)) c.in_ok-other.ensures.ok
    ∙ (λ i. Ok (diff_text (sym (c.store.ensures ∙ c.as_record.ensures) i) (sym (c.store-2.ensures ∙ c.as_record-2.ensures) i))) ∙ sym (ap Ok c.in_ok-text.ensures)
