-- Lines that commands over a state print.
use Rattle.std.specs.Prelude.{ℕ, ◌++◌, codes}
use Rattle.oct_text.specs.Words.{Text, labelled}

-- a text and a number
abbrev pub number_line : Text → ℕ → Text
number_line label n = labelled label n ++ codes "\n"

-- how many operations are new, and how many there are
abbrev pub union_line : ℕ → ℕ → Text
union_line new all = labelled (codes "new ") new ++ labelled (codes " operations ") all ++ codes "\n"

-- which author a state had, and which it has
abbrev pub renumbered_line : ℕ → ℕ → Text
renumbered_line old new = labelled (codes "author ") old ++ labelled (codes " renumbered ") new ++ codes "\n"
