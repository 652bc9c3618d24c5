-- What a call leaves with the page: the number of a fault, and as much of a text as fits.
use Rattle.std.specs.Prelude.{◌≡◌, ℕ, ◌++◌, length, take, drop, Result, Ok, Err}
use Rattle.oct_delta.specs.Text.{Bytes}
use Rattle.oct_text.specs.Words.{Text}
use Rattle.census_state.specs.FaultTexts.{fault_text}
use Rattle.census_state.specs.Statuses.{status_of}
use Rattle.census_state.specs.declared.fault.Fault.{Fault}

-- a text, or the fault in place of it
abbrev pub Answer : Type 0
Answer = Result Text Fault

-- the text, or the words of the fault
abbrev pub told_text : Answer → Text
told_text (Ok text) = text
told_text (Err fault) = fault_text fault

-- 0, or the exit status that the program has at the fault
abbrev pub told_number : Answer → ℕ
told_number (Ok text) = 0
told_number (Err fault) = status_of fault

-- as much of the text as there is room for; what stands behind it stays
abbrev pub fitted : Text → Bytes → Bytes
fitted text out = take (length out) text ++ drop (length text) out

-- a number and a text were left, in the place that had these bytes
pub record IsLeft (number : ℕ) (text : Text) (result : ℕ) (old new : Bytes) (whole : ℕ) : Type 0 where
  pub number_is : result ≡ number
  pub whole_is : whole ≡ length text
  pub front : new ≡ fitted text old

-- so an answer was
abbrev pub IsTold : Answer → ℕ → Bytes → Bytes → ℕ → Type 0
IsTold answer = IsLeft (told_number answer) (told_text answer)

-- so a right answer was
pub record Tells (right : Answer → Type 0) (result : ℕ) (old new : Bytes) (whole : ℕ) : Type 0 where
  pub answer : Answer
  pub is_right : right answer
  pub told : IsTold answer result old new whole
