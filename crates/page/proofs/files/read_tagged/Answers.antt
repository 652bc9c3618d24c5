use Rattle.std.proofs.Common.{Ok, sym, ap, ◌∙◌}
use Rattle.std.proofs.lemmas.Result.{IfErr-weaker, IfOk-weaker, err_from_is_err_and}
use Rattle.page.proofs.HeldFiles.{as_delta, of_no_state, of_state}
use Rattle.page.proofs.files.read_tagged.Goals as goal

pub returns-then-is_state-clause-ok : goal.returns-then-is_state-clause-ok
returns-then-is_state-clause-ok g c = of_state c.args.file.now c.in_ok-said.said (sym c.is_state.ensures ∙ c.if-is_state.true) c.in_ok-said.ensures.ok ∙ ap Ok (sym c.of.ensures)

pub returns-in_err-said-clause-err : goal.returns-in_err-said-clause-err
returns-in_err-said-clause-err g c =
    let p = err_from_is_err_and c.from_residual.result c.from_residual.ensures.1 in
    rw (p.1, p.2) (λ other. of_no_state c.args.file.now _ (sym c.is_state.ensures ∙ c.if-is_state.true) (c.in_err-said.ensures.err other))

pub returns-clause-ok : goal.returns-clause-ok
returns-clause-ok g c = IfOk-weaker c.read_delta.result _ _ (λ said done. as_delta c.args.file.now (sym c.is_state.ensures ∙ c.if-is_state.false) ∙ done) c.read_delta.ensures.ok

pub returns-clause-err : goal.returns-clause-err
returns-clause-err g c = IfErr-weaker c.read_delta.result _ _ (λ e done other. as_delta c.args.file.now (sym c.is_state.ensures ∙ c.if-is_state.false) ∙ done other) c.read_delta.ensures.err
