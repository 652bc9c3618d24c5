-- The codes of a text. Lines and words are those of a b-file.
use Rattle.std.specs.Prelude.{ℕ, ◌+◌, ◌==◌, Bool, List, [], ◌∷◌, ◌++◌, codes, Option, Some, None, Result, Ok, Err}
use Rattle.std.specs.List.{before_first}
use Rattle.oct_code.specs.Code.{Code}
use Rattle.oct_code.specs.CodeText.{code_text}
use Rattle.oct_code.specs.TextFaults.{around_point, code_of_parts, text_fault}
use Rattle.oct_code.specs.declared.error.CodeError.{CodeError}
use Rattle.oct_text.specs.Words.{Text}
use Rattle.oct_bfile.specs.Bfile.{lines, words}
use Rattle.census_codes.specs.declared.error.CodesError.{CodesError}
use Rattle.census_codes.specs.declared.error.CodesError.TheVariants.{NoCode}

-- a number sign
abbrev pub begins_comment : ℕ → Bool
begins_comment b = b == 35

-- what the next step gives, where there was no fault
abbrev pub then : {A B : Type 0} → (A → Result B CodesError) → Result A CodesError → Result B CodesError
then next (Ok x) = next x
then next (Err e) = Err e

abbrev pub unless : ℕ → Option CodeError → Code → Result Code CodesError
unless line None code = Ok code
unless line (Some cause) code = Err (NoCode line cause)

-- the code of a word of a line, or the word's first fault
abbrev pub code_of : ℕ → Text → Result Code CodesError
code_of line word = unless line (text_fault word) (code_of_parts (around_point word))

-- these codes, and those of the words of a line, or the fault of the first that is none
abbrev pub words_onto : ℕ → List Code → List Text → Result (List Code) CodesError
words_onto line list [] = Ok list
words_onto line list (word ∷ rest) = then (λ code. words_onto line (list ++ code ∷ []) rest) (code_of line word)

-- these codes, and those of lines, which are counted from this number on; what stands behind a number sign is passed over
abbrev pub lines_onto : ℕ → List Code → List Text → Result (List Code) CodesError
lines_onto place list [] = Ok list
lines_onto place list (line ∷ rest) = then (λ more. lines_onto (place + 1) more rest) (words_onto place list (words (before_first begins_comment line)))

-- the codes of a text, whose lines are counted from 1
abbrev pub codes_of : Text → Result (List Code) CodesError
codes_of text = lines_onto 1 [] (lines text)

-- ---- what is written

abbrev pub code_line : Code → Text
code_line code = code_text code ++ codes "\n"

-- a line for each code
abbrev pub code_lines : List Code → Text
code_lines [] = []
code_lines (code ∷ rest) = code_line code ++ code_lines rest
