-- The nim-value of a position, by a state or else by a search.
use Rattle.std.specs.Prelude.{◌≡◌, ℕ, List, Result, Ok, Err, IfErr, IfOk}
use Rattle.oct_code.specs.Code.{Code}
use Rattle.oct_delta.specs.Text.{Bytes}
use Rattle.oct_mex.specs.NimValues.{position_value as nim_sum}
use Rattle.oct_period.specs.declared.unknown.Unknown.{Unknown}
use Rattle.oct_record.specs.Content.{RecordContent}
use Rattle.oct_text.specs.Words.{Text}
use Rattle.oct_text.specs.declared.form.Form.{Form}
use Rattle.oct_window.specs.Seeking.{IsPast}
use Rattle.census_search.specs.Positions.{IsReached}
use Rattle.census_search.specs.Searching.{searchable}
use Rattle.census_state.specs.Codes.{code_of}
use Rattle.census_state.specs.Steps.{◌>>=◌}
use Rattle.census_state.specs.Stored.{loaded}
use Rattle.census_state.specs.declared.fault.Fault.{Fault}
use Rattle.census_state.specs.declared.fault.Fault.TheVariants.{PastValue}
use Rattle.census_tell.specs.Asking.{position_text, value_in}

-- the state and the game that are asked for
abbrev pub asked : Bytes → Bytes → ℕ → Result (RecordContent × Code) Fault
asked state word count = do
  number ← searchable count
  replica ← loaded state
  code ← code_of word
  Ok (replica, code)

-- the value that the state gives, or else what a search by so many values gives, is that of the position, and the text says so
pub record IsValueFound (form : Form) (state word : Bytes) (heaps : List ℕ) (count : ℕ) (text : Text) : Type 0 where
  pub replica : RecordContent
  pub code : Code
  pub asked : asked state word count ≡ Ok (replica, code)
  pub told : Result ℕ Unknown
  pub known : IfOk (value_in replica.ops code heaps) (λ value. told ≡ Ok value)
  pub reached : IfErr (value_in replica.ops code heaps) (λ unknown. IsReached code count heaps told)
  pub right : IfOk told (λ value. value ≡ nim_sum code heaps)
  pub is : text ≡ position_text form told

-- the first fault; or the state and the game are there, and a nim-value is too large for the search
abbrev pub IsFaultBehind : ℕ → Fault → Result (RecordContent × Code) Fault → Type 0
IsFaultBehind count e (Err first) = e ≡ first
IsFaultBehind count e (Ok found) = (e ≡ PastValue) × IsPast found.1 count

abbrev pub IsReachFault : Bytes → Bytes → ℕ → Fault → Type 0
IsReachFault state word count e = IsFaultBehind count e (asked state word count)
