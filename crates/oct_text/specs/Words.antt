-- Words of a line.
use Rattle.std.specs.Prelude.{ℕ, List, ◌++◌, codes}
use Rattle.std.specs.Fmt.{decimal}
use Rattle.oct_ops.specs.Operation.{Dot}

abbrev pub Text : Type 0
Text = List ℕ

-- a text, and then a number
abbrev pub labelled : Text → ℕ → Text
labelled label n = label ++ decimal n

abbrev pub dot_text : Dot → Text
dot_text d = decimal d.author ++ codes "." ++ decimal d.number
