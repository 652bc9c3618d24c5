use Rattle.std.proofs.Common.{◌≡◌, ℕ, List, Option, Result, Ok, Err, refl, subst}
use Rattle.std.specs.Prelude.{IfErr, IfOk}
use Rattle.oct_code.specs.Code.{Code}
use Rattle.oct_period.specs.Moving.{IsWinningAnswer}
use Rattle.oct_period.specs.declared.moving.Move.{Move}
use Rattle.oct_period.specs.declared.unknown.Unknown.{Unknown}
use Rattle.census_search.specs.Positions.{IsMoveReached}
use Rattle.census_state.specs.declared.fault.Fault.{Fault}
use Rattle.census_tell.specs.Moving.{move_of}
use Rattle.census_core.specs.Moved.{IsMoveTold}
use Rattle.census_core.proofs.moving.move_by.Goals as goal

abbrev Answer : Type 0
Answer = Result (Option Move) Unknown

module _ (c : Code) (count : ℕ) (heaps : List ℕ) (given : Answer) where
  -- the first answer is given
  told_given : (found : Option Move) → Ok found ≡ given → IsWinningAnswer c heaps found → IsMoveTold c count heaps given (Ok found)
  told_given found is play = record {
    known = subst (λ (x : Answer). IfOk x (λ m. ◌≡◌ {A = Answer} (Ok found) (Ok m))) is refl;
    reached = subst (λ (x : Answer). IfErr x (λ unknown. IsMoveReached c count heaps (Ok found))) is tt;
    play = play;
  }

  -- or a search gives it
  told_reached : (d : Code) (answer : Result Answer Fault) (unknown : Unknown) → d ≡ c → Err unknown ≡ given → IfOk answer (IsMoveReached d count heaps) → IfOk answer (λ told. IfOk told (IsWinningAnswer d heaps))
      → IfOk answer (IsMoveTold c count heaps given)
  told_reached d (Ok told) unknown same is reached play = record {
    known = subst (λ (x : Answer). IfOk x (λ m. ◌≡◌ {A = Answer} told (Ok m))) is tt;
    reached = subst (λ (x : Answer). IfErr x (λ u. IsMoveReached c count heaps told)) is (subst (λ e. IsMoveReached e count heaps told) same reached);
    play = subst (λ e. IfOk told (IsWinningAnswer e heaps)) same play;
  }
  told_reached d (Err fault) unknown same is reached play = tt

pub returns-in-Ok-clause-ok : goal.returns-in-Ok-clause-ok
returns-in-Ok-clause-ok g c =
    told_given c.args.game.now.code c.args.count c.args.heaps.now (move_of c.args.game.now c.args.heaps.now) c.in-Ok.found c.in-Ok.ensures.value c.in-Ok.ensures.play

pub returns-in-Err-clause-ok : goal.returns-in-Err-clause-ok
returns-in-Err-clause-ok g c =
    told_reached c.args.game.now.code c.args.count c.args.heaps.now (move_of c.args.game.now c.args.heaps.now) c.code.result c.reach_move.result c.in-Err.field-0 c.code.ensures c.in-Err.ensures.value c.reach_move.ensures.ok c.reach_move.ensures.play
