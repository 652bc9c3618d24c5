use Rattle.std.proofs.Common.{arith, ap, codes, ◌∙◌}
use Rattle.std.proofs.lemmas.Result.{IfErr-weaker, IfOk-weaker, err_from_is_err_and}
use Rattle.census_state.specs.Lines.{number_line}
use Rattle.census_state.proofs.Merging.{merge_refused, merge_saves}
use Rattle.census_state.proofs.states.merge.Goals as goal

pub returns-in_err-new-clause-err : goal.returns-in_err-new-clause-err
returns-in_err-new-clause-err c =
    let p = err_from_is_err_and c.from_residual-in_err-new.result c.from_residual-in_err-new.ensures.1 in
    rw (p.1, p.2) (λ other. merge_refused c.texts_are_read.ensures c.args.state.now c.args.file.now c.in_ok-said.said c.take.result _ (λ i. let byte = c.type_inv.file i in omega (arith, byte)) c.in_ok-said.ensures.ok c.in_err-new.was c.take.ensures.version c.take.ensures.refused other)

pub returns-clause-ok : goal.returns-clause-ok
returns-clause-ok c =
    IfOk-weaker c.save.result _ _ (λ reply done. merge_saves c.args.state.now c.args.file.now c.in_ok-said.said c.take.new.self c.in_ok-text.text.items c.in_ok-new.new c.in_ok-said.ensures.ok c.in_ok-new.ensures.text c.in_ok-new.ensures.ok c.in_ok-new.ensures.new (c.in_ok-text.ensures ∙ ap (number_line (codes "new ")) c.from.ensures) ∙ done) c.save.ensures.ok

pub returns-clause-err : goal.returns-clause-err
returns-clause-err c =
    IfErr-weaker c.save.result _ _ (λ e done other. merge_saves c.args.state.now c.args.file.now c.in_ok-said.said c.take.new.self c.in_ok-text.text.items c.in_ok-new.new c.in_ok-said.ensures.ok c.in_ok-new.ensures.text c.in_ok-new.ensures.ok c.in_ok-new.ensures.new (c.in_ok-text.ensures ∙ ap (number_line (codes "new ")) c.from.ensures) ∙ done other) c.save.ensures.err
