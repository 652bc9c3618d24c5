use Rattle.std.proofs.Common.{Ok, arith, sym, ap, ◌∙◌}
use Rattle.std.proofs.lemmas.Result.{err_from_is_err_and}
use Rattle.oct_delta.specs.Taken.{operations_of}
use Rattle.census_fold.proofs.Digested.{of_delta, of_no_delta, of_no_state, of_state}
use Rattle.census_state.proofs.Merging.{delta_refused}
use Rattle.census_state.proofs.Rounds.{from_none}
use Rattle.census_fold.proofs.digests.read_held.Goals as goal

pub returns-then-is_state-clause-ok : goal.returns-then-is_state-clause-ok
returns-then-is_state-clause-ok c = of_state c.args.file.now c.in_ok-said.said (sym c.is_state.ensures ∙ c.if-is_state.true) c.in_ok-said.ensures.ok ∙ ap Ok (sym c.of.ensures)

pub returns-in_err-said-clause-err : goal.returns-in_err-said-clause-err
returns-in_err-said-clause-err c =
    let p = err_from_is_err_and c.from_residual.result c.from_residual.ensures.1 in
    rw (p.1, p.2) (λ other. of_no_state c.args.file.now _ (sym c.is_state.ensures ∙ c.if-is_state.true) (c.in_err-said.ensures.err other))

pub returns-in_err-take-clause-err : goal.returns-in_err-take-clause-err
returns-in_err-take-clause-err c =
    let p = err_from_is_err_and c.from_residual-in_err-take.result c.from_residual-in_err-take.ensures.1 in
    rw (p.1, p.2) (λ other. of_no_delta c.args.file.now _ (sym c.is_state.ensures ∙ c.if-is_state.false)
    (delta_refused c.texts_are_read.ensures c.args.file.now c.take.result _ (λ i. let byte = c.type_inv.file i in omega (arith, byte)) c.in_err-take.was c.take.ensures.version c.take.ensures.refused other))

pub returns-clause-ok : goal.returns-clause-ok
returns-clause-ok c =
    of_delta c.args.file.now c.take.new.self (sym c.is_state.ensures ∙ c.if-is_state.false) c.in_ok-take.ensures.text
    (rw c.in_ok-take.ensures.ok (from_none c.new-held.result (operations_of c.args.file.now) c.new-held.ensures))
