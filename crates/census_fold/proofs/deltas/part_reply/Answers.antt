use Rattle.std.proofs.Common.{ap, codes, ◌∙◌}
use Rattle.std.proofs.lemmas.Result.{err_from_is_err_and}
use Rattle.census_state.specs.Lines.{number_line}
use Rattle.census_fold.proofs.Parting.{part_not_written, part_written}
use Rattle.census_fold.proofs.deltas.part_reply.Goals as goal

pub returns-in_err-file-clause-err : goal.returns-in_err-file-clause-err
returns-in_err-file-clause-err c =
    let p = err_from_is_err_and c.from_residual.result c.from_residual.ensures.1 in
    rw (p.1, p.2) (λ other. part_not_written c.args.part.now.ops _ (c.in_err-file.ensures.err other))

pub returns-clause-ok : goal.returns-clause-ok
returns-clause-ok c =
    part_written c.args.part.now.ops c.in_ok-file.file.items c.in_ok-text.text.items c.in_ok-file.ensures.ok
    (c.in_ok-text.ensures ∙ ap (number_line (codes "operations ")) c.len.ensures)
