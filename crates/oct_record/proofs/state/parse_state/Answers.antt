use Rattle.std.proofs.lemmas.Result.{err_from_is_err_and}
use Rattle.oct_delta.proofs.Deltas.{text_rising}
use Rattle.oct_record.proofs.Along.{text_few}
use Rattle.oct_record.proofs.StateTexts.{is_state, list_refused}
use Rattle.oct_record.proofs.state.parse_state.Goals as goal

pub returns-in_err-ops-clause-err : goal.returns-in_err-ops-clause-err
returns-in_err-ops-clause-err c =
    let p = err_from_is_err_and c.from_residual-in_err-ops.result c.from_residual-in_err-ops.ensures.1 in
    rw (p.1, p.2) (list_refused c.args.bytes.now c.in_ok-author.delta.now c.in_ok-author.author c.in_ok-author.ensures.ok _ c.in_err-ops.ensures.err)

pub returns-clause-ok : goal.returns-clause-ok
returns-clause-ok c = is_state c.args.bytes.now c.in_ok-author.delta.now c.in_ok-author.author c.in_ok-ops.ops c.in_ok-author.ensures.ok c.in_ok-ops.ensures.ok

pub returns-clause-author : goal.returns-clause-author
returns-clause-author c = c.in_ok-author.ensures.ok.fits.0

pub returns-clause-few : goal.returns-clause-few
returns-clause-few c = text_few c.in_ok-author.delta.now c.in_ok-ops.ops c.in_ok-ops.ensures.ok

pub returns-clause-rising : goal.returns-clause-rising
returns-clause-rising c = text_rising c.in_ok-author.delta.now c.in_ok-ops.ops c.in_ok-ops.ensures.ok

pub returns-in_err-author-clause-memory : goal.returns-in_err-author-clause-memory
returns-in_err-author-clause-memory c =
    let p = err_from_is_err_and c.from_residual.result c.from_residual.ensures.1 in
    rw (p.1, p.2) c.in_err-author.ensures.memory

pub returns-in_err-ops-clause-memory : goal.returns-in_err-ops-clause-memory
returns-in_err-ops-clause-memory c =
    let p = err_from_is_err_and c.from_residual-in_err-ops.result c.from_residual-in_err-ops.ensures.1 in
    rw (p.1, p.2) c.in_err-ops.ensures.memory
