use Rattle.std.proofs.Common.{sym, ◌∙◌}
use Rattle.std.proofs.lemmas.Bool.{false≢true}
use Rattle.std.proofs.lemmas.Result.{err_from_is_err_and}
use Rattle.census_issue.proofs.Importing.{block_read, block_refused, json_refused}
use Rattle.census_issue.proofs.issuing.read_block.Goals as goal

pub returns-in-Err-2-clause-err : goal.returns-in-Err-2-clause-err
returns-in-Err-2-clause-err c = λ other.
    json_refused c.args.file.now (c.in-Err.ensures.err (λ memory. false≢true (sym c.if-is_memory.false ∙ c.is_memory.ensures.1 memory)))

pub returns-in_err-block-clause-err : goal.returns-in_err-block-clause-err
returns-in_err-block-clause-err c =
    let p = err_from_is_err_and c.from_residual.result c.from_residual.ensures.1 in
    rw (p.1, p.2) (block_refused c.args.file.now _ _ c.in-Ok.ensures.ok.0 c.in-Ok.ensures.ok.1 c.in_err-block.ensures.err)

pub returns-clause-ok : goal.returns-clause-ok
returns-clause-ok c = block_read c.args.file.now _ c.in_ok-block.block c.in-Ok.ensures.ok.0 c.in-Ok.ensures.ok.1 c.in_ok-block.ensures.ok
