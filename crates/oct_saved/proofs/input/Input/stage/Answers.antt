use Rattle.std.proofs.lemmas.Result.{err_from_is_err_and}
use Rattle.oct_saved.proofs.Fronts.{refuses_more, stage_comparing, stage_watching}
use Rattle.oct_saved.proofs.input.Input.stage.Goals as goal

pub returns-in_err-watch-in-0-clause-err : goal.returns-in_err-watch-in-0-clause-err
returns-in_err-watch-in-0-clause-err g c =
    let p = err_from_is_err_and c.from_residual.result c.from_residual.ensures.1 in
    rw (p.1, p.2) (refuses_more c.in_err-watch-in-0.field-0.0 _ _ (stage_watching c.args.code c.args.kind c.args.scalars.now c.args.self.now c.in-0.is) c.in_err-watch-in-0.ensures.err)

pub returns-in_err-seen-in-1-clause-err : goal.returns-in_err-seen-in-1-clause-err
returns-in_err-seen-in-1-clause-err g c =
    let p = err_from_is_err_and c.from_residual-in_err-seen-in-1.result c.from_residual-in_err-seen-in-1.ensures.1 in
    rw (p.1, p.2) (refuses_more c.in_err-seen-in-1.field-0.0 _ _ (stage_comparing c.args.code c.args.kind c.args.scalars.now c.args.self.now c.in-1.is) c.in_err-seen-in-1.ensures.err)
