-- What is found of a game as one line of JSON.
use Rattle.std.specs.Prelude.{ℕ, ◌++◌, codes, Option, Some, None}
use Rattle.oct_code.specs.Code.{Code}
use Rattle.oct_code.specs.CodeText.{code_text}
use Rattle.oct_ops.specs.Operation.{Period}
use Rattle.oct_text.specs.Words.{Text, labelled}
use Rattle.oct_period.specs.Periods.{needs}

-- the beginning of an object, up to the end of the code
abbrev pub code_member : Code → Text
code_member c = codes "{\"code\":\"" ++ code_text c

-- the end of the code, and the period, the heap from which on it holds, and how many nim-values prove it; null where none is found
abbrev pub period_members : Option Period → Text
period_members (Some p) = labelled (codes "\",\"period\":") p.period ++ labelled (codes ",\"from\":") p.start ++ labelled (codes ",\"needs\":") (needs p)
period_members None = codes "\",\"period\":null"

-- how many nim-values are known, and the end of the object
abbrev pub known_member : ℕ → Text
known_member known = labelled (codes ",\"known\":") known ++ codes "}\n"

-- the period that is found of a game, and how many of its nim-values are known
abbrev pub found_object : Code → Option Period → ℕ → Text
found_object c found known = code_member c ++ period_members found ++ known_member known
