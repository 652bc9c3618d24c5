-- A winning move of a position, by a state or else by a search.
use Rattle.std.specs.Prelude.{◌≡◌, ℕ, List, Option, Result, Ok, IfErr, IfOk}
use Rattle.oct_code.specs.Code.{Code}
use Rattle.oct_delta.specs.Text.{Bytes}
use Rattle.oct_period.specs.Moving.{IsWinningAnswer}
use Rattle.oct_period.specs.declared.moving.Move.{Move}
use Rattle.oct_period.specs.declared.unknown.Unknown.{Unknown}
use Rattle.oct_record.specs.Content.{RecordContent}
use Rattle.oct_text.specs.Words.{Text}
use Rattle.oct_text.specs.declared.form.Form.{Form}
use Rattle.census_search.specs.Positions.{IsMoveReached}
use Rattle.census_tell.specs.Moving.{move_in, move_text}
use Rattle.census_core.specs.Reaching.{asked}

-- what is given, or else what a search by so many values gives: the first winning move
pub record IsMoveTold (c : Code) (count : ℕ) (heaps : List ℕ) (given told : Result (Option Move) Unknown) : Type 0 where
  pub known : IfOk given (λ found. told ≡ Ok found)
  pub reached : IfErr given (λ unknown. IsMoveReached c count heaps told)
  pub play : IfOk told (IsWinningAnswer c heaps)

-- that which the state gives, or else a search, and the text says it
pub record IsMoveFound (form : Form) (state word : Bytes) (heaps : List ℕ) (count : ℕ) (text : Text) : Type 0 where
  pub replica : RecordContent
  pub code : Code
  pub asked : asked state word count ≡ Ok (replica, code)
  pub told : Result (Option Move) Unknown
  pub right : IsMoveTold code count heaps (move_in replica.ops code heaps) told
  pub is : text ≡ move_text form heaps told
