use Rattle.std.proofs.lemmas.Result.{err_from_is_err_and}
use Rattle.oct_saved.proofs.Fronts.{reader_window, refuses_more}
use Rattle.oct_saved.proofs.input.Input.reader.Goals as goal

pub returns-in_err-window-clause-err : goal.returns-in_err-window-clause-err
returns-in_err-window-clause-err g c =
    let p = err_from_is_err_and c.from_residual.result c.from_residual.ensures.1 in
    rw (p.1, p.2) (refuses_more c.in_err-window.field-0.0 _ _ (reader_window c.args.code c.args.scalars.now c.args.self.now) c.in_err-window.ensures.err)
