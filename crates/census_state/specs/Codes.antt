-- The codes that texts spell.
use Rattle.std.specs.Prelude.{ℕ, List, [], ◌∷◌, Result, Ok}
use Rattle.oct_code.specs.Code.{Code}
use Rattle.oct_code.specs.TextFaults.{around_point, text_fault, code_of_parts}
use Rattle.oct_code.specs.declared.error.CodeError.{CodeError}
use Rattle.oct_delta.specs.Text.{Bytes}
use Rattle.census_state.specs.Steps.{◌>>=◌, because, unless}
use Rattle.census_state.specs.declared.fault.Fault.{Fault}
use Rattle.census_state.specs.declared.fault.Fault.TheVariants as fault

-- the code, or the text's first fault
abbrev pub read_code : List ℕ → Result Code CodeError
read_code text = unless (text_fault text) (code_of_parts (around_point text))

-- the code of a command's word
abbrev pub code_of : Bytes → Result Code Fault
code_of word = because fault.Code (read_code word)

-- the codes of its words, or the fault of the first that is none
abbrev pub codes_of : List Bytes → Result (List Code) Fault
codes_of [] = Ok []
codes_of (word ∷ words) = do
  code ← code_of word
  games ← codes_of words
  Ok (code ∷ games)
