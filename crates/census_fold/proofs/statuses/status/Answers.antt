use Rattle.std.proofs.Common.{◌++◌, length, ◌∙◌}
use Rattle.std.proofs.lemmas.Result.{err_from_is_err_and}
use Rattle.census_fold.specs.Statuses.{file_lines}
use Rattle.census_fold.proofs.Stating.{not_digested, not_loaded, of_held}
use Rattle.census_fold.proofs.statuses.status.Goals as goal

pub returns-in_err-held-clause-err : goal.returns-in_err-held-clause-err
returns-in_err-held-clause-err c =
    let p = err_from_is_err_and c.from_residual.result c.from_residual.ensures.1 in
    rw (p.1, p.2) (λ other. not_loaded c.args.state.now _ (c.in_err-held.ensures.err other))

pub returns-in_err-digits-clause-err : goal.returns-in_err-digits-clause-err
returns-in_err-digits-clause-err c =
    let p = err_from_is_err_and c.from_residual-in_err-digits.result c.from_residual-in_err-digits.ensures.1 in
    rw (p.1, p.2) (λ other. not_digested c.args.state.now c.in_ok-held.held _ c.in_ok-held.ensures.ok (c.in_err-digits.ensures.err other))

pub returns-clause-ok : goal.returns-clause-ok
returns-clause-ok c =
    of_held c.args.state.now c.in_ok-held.held c.in_ok-digits.digits.items _ c.in_ok-held.ensures.ok c.in_ok-digits.ensures.ok
    (c.in_ok-append_file.ensures ∙ (λ i. c.in_ok-text.ensures i ++ file_lines (c.deref.ensures.value i) (length c.args.state.now)))
