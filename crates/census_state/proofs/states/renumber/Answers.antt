use Rattle.std.proofs.Common.{◌∙◌}
use Rattle.std.proofs.lemmas.Result.{IfErr-weaker, IfOk-weaker, err_from_is_err_and}
use Rattle.census_state.proofs.Renumbering.{not_loaded, not_renumbered, renumber_saves}
use Rattle.census_state.proofs.states.renumber.Goals as goal

pub returns-in_err-said-clause-err : goal.returns-in_err-said-clause-err
returns-in_err-said-clause-err c =
    let p = err_from_is_err_and c.from_residual.result c.from_residual.ensures.1 in
    rw (p.1, p.2) (λ other. not_loaded c.args.id c.args.state.now c.if-id-eq0.false _ (c.in_err-said.ensures.err other))

pub returns-in_err-old-clause-err : goal.returns-in_err-old-clause-err
returns-in_err-old-clause-err c =
    let p = err_from_is_err_and c.from_residual-in_err-old.result c.from_residual-in_err-old.ensures.1 in
    rw (p.1, p.2) (λ other. not_renumbered c.args.id c.args.state.now c.if-id-eq0.false c.in_ok-said.said c.renumber.result _ c.in_ok-said.ensures.ok c.in_err-old.was c.renumber.ensures.zero c.renumber.ensures.held)

pub returns-clause-ok : goal.returns-clause-ok
returns-clause-ok c =
    IfOk-weaker c.save.result _ _
    (λ reply done. renumber_saves c.args.id c.args.state.now c.if-id-eq0.false c.in_ok-said.said c.renumber.new.self c.renumber.result c.in_ok-old.old c.in_ok-text.text.items c.in_ok-said.ensures.ok c.in_ok-old.was c.renumber.ensures.held c.in_ok-old.ensures.ok c.in_ok-old.ensures.was c.in_ok-text.ensures ∙ done) c.save.ensures.ok

pub returns-clause-err : goal.returns-clause-err
returns-clause-err c =
    IfErr-weaker c.save.result _ _
    (λ e done other. renumber_saves c.args.id c.args.state.now c.if-id-eq0.false c.in_ok-said.said c.renumber.new.self c.renumber.result c.in_ok-old.old c.in_ok-text.text.items c.in_ok-said.ensures.ok c.in_ok-old.was c.renumber.ensures.held c.in_ok-old.ensures.ok c.in_ok-old.ensures.was c.in_ok-text.ensures ∙ done other) c.save.ensures.err
