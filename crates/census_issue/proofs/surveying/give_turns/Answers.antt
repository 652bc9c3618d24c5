use Rattle.std.proofs.Common.{map, subst}
use Rattle.std.proofs.lemmas.Result.{err_from_is_err_and}
use Rattle.census_issue.specs.Finding.{turn_of}
use Rattle.census_issue.specs.Turns.{KeptSome}
use Rattle.census_issue.proofs.InTurn.{none_kept, stages_are}
use Rattle.census_issue.proofs.surveying.give_turns.Goals as goal

pub returns-in_err-said-clause-stands : goal.returns-in_err-said-clause-stands
returns-in_err-said-clause-stands g c = none_kept _ _ _ c.from_residual-in_err-said.result

pub returns-in_err-codes-clause-stands : goal.returns-in_err-codes-clause-stands
returns-in_err-codes-clause-stands g c = none_kept _ _ _ c.from_residual-in_err-codes.result

pub returns-in_err-text-clause-stands : goal.returns-in_err-text-clause-stands
returns-in_err-text-clause-stands g c =
    let p = err_from_is_err_and c.from_residual-in_err-text.result c.from_residual-in_err-text.ensures.1 in
    rw (p.1, p.2) (λ other. subst (λ all. KeptSome g.K.TurnKeeper.keeps c.args.keeper.now all c.turns.new.keeper)
    (stages_are (turn_of c.args.aim) c.args.state.now c.args.count (map (λ word. word.items) c.args.codes.now) _ _ _ c.in_ok-check_count.ensures.ok c.in_ok-said.ensures.ok c.in_ok-codes.ensures.ok c.deref.ensures.value)
    (c.in_err-text.ensures.stands other))
