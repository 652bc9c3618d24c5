-- The period that a search of a game in windows finds, and the text that names it.
use Rattle.std.specs.Prelude.{◌≡◌, ℕ, Bool, true, IsTrue, ◌&&◌, nat_le, max, Result, Ok, Err, if◌then◌else◌}
use Rattle.oct_code.specs.Code.{Code}
use Rattle.oct_text.specs.Words.{Text}
use Rattle.oct_text.specs.declared.form.Form.{Form}
use Rattle.oct_window.specs.Seeking.{IsAsFarAs, IsPast, IsSought, IsTold}
use Rattle.oct_window.specs.declared.sought.Sought.{Sought}
use Rattle.census_search.specs.SoughtTexts.{sought_text}
use Rattle.census_state.specs.declared.fault.Fault.{Fault}
use Rattle.census_state.specs.declared.fault.Fault.TheVariants.{File, Number, PastValue, OutOfMemory}
use Rattle.census_search.specs.declared.windowed.TheConstants.{WINDOW_LIMIT}

-- a number of nim-values that a search in windows may compute
abbrev pub windowable : ℕ → Result ℕ Fault
windowable count = if nat_le 1 count && nat_le count WINDOW_LIMIT then Ok count else Err Number

-- the text says what at most `count` nim-values of the game show; it may say that the search was taken up again
pub record IsSoughtText (form : Form) (resumed : Bool) (c : Code) (count : ℕ) (text : Text) : Type 0 where
  pub sought : Sought
  pub shown : IsSought c count sought
  pub is : text ≡ sought_text form resumed c sought

-- the text says something of at most `count` nim-values, as far as so many that were computed before, and that the search was taken up again
pub record IsResumedText (form : Form) (c : Code) (count computed : ℕ) (text : Text) : Type 0 where
  pub sought : Sought
  pub told : IsTold count sought
  pub far : IsAsFarAs computed sought
  pub is : text ≡ sought_text form true c sought

-- the fault is `File` only where a place of the search may not be kept
abbrev pub IsWindowFault : Bool → Code → ℕ → Fault → Type 0
IsWindowFault refuses c count Number = windowable count ≡ Err Number
IsWindowFault refuses c count PastValue = IsPast c count
IsWindowFault refuses c count File = IsTrue refuses
IsWindowFault refuses c count OutOfMemory = Unit {0}
IsWindowFault refuses c count fault = ⊥

-- of a search that is taken up again where so many values were computed
abbrev pub IsResumeFault : Bool → Code → ℕ → ℕ → Fault → Type 0
IsResumeFault refuses c count computed Number = windowable count ≡ Err Number
IsResumeFault refuses c count computed PastValue = IsPast c (max count computed)
IsResumeFault refuses c count computed File = IsTrue refuses
IsResumeFault refuses c count computed OutOfMemory = Unit {0}
IsResumeFault refuses c count computed fault = ⊥
