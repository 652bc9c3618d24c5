use Rattle.std.proofs.Common.{arith}
use Rattle.std.proofs.lemmas.Result.{err_from_is_err_and}
use Rattle.census_state.proofs.StoredStates.{state_read, state_refused}
use Rattle.page.proofs.files.read_state.Goals as goal

pub returns-in_err-said-clause-err : goal.returns-in_err-said-clause-err
returns-in_err-said-clause-err g c =
    let p = err_from_is_err_and c.from_residual.result c.from_residual.ensures.1 in
    rw (p.1, p.2) (λ other. state_refused c.texts_are_read.ensures c.args.file.now _ (λ i. let byte = c.type_inv.file i in omega (arith, byte)) c.in_err-said.ensures.err other)

pub returns-clause-ok : goal.returns-clause-ok
returns-clause-ok g c =
    let r = c.in_ok-said.said in
    state_read c.texts_are_read.ensures c.args.file.now r.author r.ops (λ i. let byte = c.type_inv.file i in omega (arith, byte)) c.in_ok-said.ensures.ok
