-- The period that a search of a game finds, and the text that names it.
use Rattle.std.specs.Prelude.{◌≡◌, ℕ, ◌≤◌, ◌⊎◌, ◌&&◌, nat_le, List, Some, None, Result, Ok, Err, if◌then◌else◌}
use Rattle.oct_code.specs.Code.{Code}
use Rattle.oct_mex.specs.Periods.{NoneIsShown}
use Rattle.oct_mex.specs.declared.period.SeenPeriod.{SeenPeriod}
use Rattle.oct_text.specs.Words.{Text}
use Rattle.oct_search.specs.Found.{IsLeastShown}
use Rattle.oct_window.specs.Seeking.{IsPast}
use Rattle.census_search.specs.SearchTexts.{search_text}
use Rattle.census_state.specs.declared.fault.Fault.{Fault}
use Rattle.census_state.specs.declared.fault.Fault.TheVariants.{Number, PastValue, OutOfMemory}
use Rattle.oct_text.specs.declared.form.Form.{Form}
use Rattle.census_search.specs.declared.searching.TheConstants.{SEARCH_LIMIT}

-- a number of nim-values that a search may compute
abbrev pub searchable : ℕ → Result ℕ Fault
searchable count = if nat_le 1 count && nat_le count SEARCH_LIMIT then Ok count else Err Number

-- the text names the least period that the first nim-values of the game prove, at most `count` of them, from the least heap; it holds for every heap
pub record NamesPeriod (form : Form) (c : Code) (count : ℕ) (heaps : List ℕ) (text : Text) : Type 0 where
  pub seen : SeenPeriod
  pub values : ℕ
  pub few : values ≤ count
  pub least : IsLeastShown c values seen
  pub is : text ≡ search_text form c (Some seen) values heaps

-- the first `count` nim-values prove none, and the text says so
pub record NamesNone (form : Form) (c : Code) (count : ℕ) (heaps : List ℕ) (text : Text) : Type 0 where
  pub none : NoneIsShown c count count
  pub is : text ≡ search_text form c None count heaps

abbrev pub IsSearched : Form → Code → ℕ → List ℕ → Text → Type 0
IsSearched form c count heaps text = NamesPeriod form c count heaps text ⊎ NamesNone form c count heaps text

-- ---- faults

-- why a search of `count` nim-values ends before its line: where memory is refused there is nothing to say of the game
abbrev pub IsSearchFault : Code → ℕ → Fault → Type 0
IsSearchFault c count Number = searchable count ≡ Err Number
IsSearchFault c count PastValue = IsPast c count
IsSearchFault c count OutOfMemory = Unit {0}
IsSearchFault c count fault = ⊥
