use Rattle.std.proofs.lemmas.Result.{IfErr-weaker, IfOk-weaker, err_from_is_err_and}
use Rattle.std.proofs.Common.{Ok, Err, sym, ap, ◌∙◌}
use Rattle.census_fold.proofs.Digested.{as_its_set, not_read}
use Rattle.census_fold.proofs.digests.digest.Goals as goal

pub returns-in_err-held-clause-err : goal.returns-in_err-held-clause-err
returns-in_err-held-clause-err c =
    let p = err_from_is_err_and c.from_residual.result c.from_residual.ensures.1 in
    rw (p.1, p.2) (λ other. not_read c.args.file.now _ (c.in_err-held.ensures.err other))

pub returns-clause-ok : goal.returns-clause-ok
returns-clause-ok c = IfOk-weaker c.record_digest.result _ _ (λ digits done. as_its_set c.args.file.now c.as_record.result.now.ops (Ok digits.items) (c.in_ok-held.ensures.ok ∙ ap Ok (sym c.as_record.ensures)) done) c.record_digest.ensures.ok

pub returns-clause-err : goal.returns-clause-err
returns-clause-err c = IfErr-weaker c.record_digest.result _ _ (λ e done other. as_its_set c.args.file.now c.as_record.result.now.ops (Err e) (c.in_ok-held.ensures.ok ∙ ap Ok (sym c.as_record.ensures)) (done other)) c.record_digest.ensures.err
