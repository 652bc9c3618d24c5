use Rattle.std.proofs.Common.{Err, ◌++◌, ap, codes, ◌∙◌}
use Rattle.std.proofs.lemmas.Result.{err_from_is_err_and}
use Rattle.oct_delta.specs.Delta.{encoded}
use Rattle.oct_ops.specs.Operations.{listed}
use Rattle.oct_store.specs.Summary.{beyond}
use Rattle.census_state.specs.Lines.{number_line}
use Rattle.census_fold.proofs.AllInOne.{delta_given, delta_refused}
use Rattle.census_fold.proofs.deltas.delta_reply.Goals as goal

pub returns-in_err-delta-clause-err : goal.returns-in_err-delta-clause-err
returns-in_err-delta-clause-err c =
    let p = err_from_is_err_and c.from_residual.result c.from_residual.ensures.1 in
    rw (p.1, p.2) (delta_refused c.args.held.now c.new.result _ c.new.ensures c.requires.valid (λ e. c.in_err-delta.ensures.too_many (ap Err e)))

pub returns-clause-ok : goal.returns-clause-ok
returns-clause-ok c =
    delta_given c.args.held.now c.new.result c.delta-2.new.out.items c.in_ok-text.text.items c.new.ensures c.requires.valid
    (c.in_ok-delta.ensures.ok ∙ ap (λ front. front ++ encoded (listed (beyond c.args.held.now.ops c.new.result))) c.new-file.ensures.items)
    c.in_ok-delta.ensures.few (c.in_ok-text.ensures ∙ ap (number_line (codes "operations ")) c.len.ensures)
