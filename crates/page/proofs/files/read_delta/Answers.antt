use Rattle.std.proofs.Common.{arith}
use Rattle.std.proofs.lemmas.Result.{err_from_is_err_and}
use Rattle.oct_delta.specs.Taken.{operations_of}
use Rattle.census_state.proofs.Merging.{delta_refused}
use Rattle.census_state.proofs.Rounds.{from_none}
use Rattle.page.proofs.HeldFiles.{of_delta}
use Rattle.page.proofs.files.read_delta.Goals as goal

pub returns-in_err-take-clause-err : goal.returns-in_err-take-clause-err
returns-in_err-take-clause-err g c =
    let p = err_from_is_err_and c.from_residual.result c.from_residual.ensures.1 in
    rw (p.1, p.2)
    (λ other. delta_refused c.texts_are_read.ensures c.args.file.now c.take.result _ (λ i. let byte = c.type_inv.file i in omega (arith, byte)) c.in_err-take.was c.take.ensures.version c.take.ensures.refused other)

pub returns-clause-ok : goal.returns-clause-ok
returns-clause-ok g c =
    of_delta c.args.file.now c.take.new.self c.in_ok-take.ensures.text (rw c.in_ok-take.ensures.ok (from_none c.new-held.result (operations_of c.args.file.now) c.new-held.ensures))
