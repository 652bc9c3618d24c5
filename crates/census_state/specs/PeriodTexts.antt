-- What is said of a period that nim-values prove, or of nim-values that prove none.
use Rattle.std.specs.Prelude.{ℕ, ◌++◌, codes}
use Rattle.oct_code.specs.Code.{Code}
use Rattle.oct_code.specs.CodeText.{code_text}
use Rattle.oct_ops.specs.Operation.{Period}
use Rattle.oct_text.specs.Words.{Text, labelled}
use Rattle.oct_period.specs.Periods.{needs}

-- the period, the heap from which on the nim-values repeat, and how many of them prove it
abbrev pub found_text : Period → Text
found_text p = labelled (codes " period ") p.period ++ labelled (codes " from ") p.start ++ labelled (codes " needs ") (needs p)

-- so many nim-values prove no period
abbrev pub vain_words : Code → ℕ → Text
vain_words c values = code_text c ++ labelled (codes " no period in ") values ++ codes " values"

abbrev pub vain_line : Code → ℕ → Text
vain_line c values = vain_words c values ++ codes "\n"
