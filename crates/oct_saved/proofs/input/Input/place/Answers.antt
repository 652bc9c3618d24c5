use Rattle.std.proofs.lemmas.Result.{err_from_is_err_and}
use Rattle.oct_saved.proofs.Fronts.{place_code, place_digits_listed, place_listed, place_stage, refuses_more}
use Rattle.oct_saved.proofs.input.Input.place.Goals as goal

pub returns-in_err-list-clause-err : goal.returns-in_err-list-clause-err
returns-in_err-list-clause-err g c =
    let p = err_from_is_err_and c.from_residual.result c.from_residual.ensures.1 in
    rw (p.1, p.2) (refuses_more c.in_err-list.field-0.0 _ _ (place_listed c.args.self.now) c.in_err-list.ensures.err)

pub returns-in_err-list-2-clause-err : goal.returns-in_err-list-2-clause-err
returns-in_err-list-2-clause-err g c =
    let p = err_from_is_err_and c.from_residual-in_err-list-2.result c.from_residual-in_err-list-2.ensures.1 in
    rw (p.1, p.2) (refuses_more c.in_err-list-2.field-0.0 _ _ (place_digits_listed c.args.self.now _ _ c.in_ok-list.ensures.ok) c.in_err-list-2.ensures.err)

pub returns-in_err-code-clause-err : goal.returns-in_err-code-clause-err
returns-in_err-code-clause-err g c =
    let p = err_from_is_err_and c.from_residual-in_err-code.result c.from_residual-in_err-code.ensures.1 in
    rw (p.1, p.2) (refuses_more c.in_err-code.field-0.0 _ _ (place_code c.args.self.now _ _ _ _ c.in_ok-list.ensures.ok c.in_ok-list-2.ensures.ok) c.in_err-code.ensures.err)

pub returns-in_err-stage-clause-err : goal.returns-in_err-stage-clause-err
returns-in_err-stage-clause-err g c =
    let p = err_from_is_err_and c.from_residual-in_err-stage.result c.from_residual-in_err-stage.ensures.1 in
    rw (p.1, p.2) (refuses_more c.in_err-stage.field-0.0 _ _ (place_stage c.in_ok-code.code c.args.self.now _ _ _ _ c.in_ok-list.ensures.ok c.in_ok-list-2.ensures.ok c.in_ok-code.ensures.ok) c.in_err-stage.ensures.err)
