use Rattle.std.proofs.Common.{ap, subst, sym, ◌∙◌}
use Rattle.std.specs.Prelude.{Ok}
use Rattle.oct_period.specs.GameContent.{GameContent}
use Rattle.census_state.proofs.Stepping.{then_with}
use Rattle.census_state.specs.Steps.{◌>>=◌, because}
use Rattle.census_state.specs.declared.fault.Fault.TheVariants as fault
use Rattle.census_tell.proofs.Moves.{is_within}
use Rattle.census_tell.specs.Moving.{move_of}
use Rattle.census_core.specs.Moved.{IsMoveTold}
use Rattle.census_core.proofs.moving.move_by_search.Goals as goal

pub move_text-requires : goal.move_text-requires
move_text-requires g c = is_within c.in_ok-game.game.code c.args.heaps.now c.in_ok-answer.answer c.in_ok-answer.ensures.ok.play

pub returns-clause-ok : goal.returns-clause-ok
returns-clause-ok g c =
    let replica = c.in_ok-held.held in
    let code = c.in_ok-code.code in
    let heaps = c.args.heaps.now in
    let answer = c.in_ok-answer.answer in
    let coded = sym c.read_code.ensures ∙ c.in_ok-code.was in
    record {
      replica = replica;
      code = code;
      asked = then_with _ _ _ c.in_ok-check_searchable.ensures.ok ∙ then_with _ _ _ c.in_ok-held.ensures.ok ∙ ap (λ d. because fault.Code d >>= λ e. Ok (replica, e)) coded;
      told = answer;
      right = subst (λ (game : GameContent). IsMoveTold game.code c.args.count heaps (move_of game heaps) answer) c.in_ok-game.ensures c.in_ok-answer.ensures.ok;
      is = c.in_ok-move_text.ensures;
    }
