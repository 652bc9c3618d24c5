-- How SQL reads a literal.
use Rattle.std.specs.Prelude.{◌≡◌, ℕ, ◌==◌, Bool, false, [], ◌∷◌, ◌++◌, Option, Some, None, if◌then◌else◌}
use Rattle.oct_text.specs.Words.{Text}
use Rattle.oct_sql.specs.Cells.{literal}

-- what a text begins with, before what was read of it
abbrev pub before : ℕ → Option (Text × Text) → Option (Text × Text)
before b None = None
before b (Some read) = Some (b ∷ read.0, read.1)

-- What stands in a literal up to its end, and what stands behind it; none where it has no end. Two quotes stand for one, and a quote by itself ends it.
abbrev mutual
  pub read_on : Text → Option (Text × Text)
  read_on [] = None
  read_on (b ∷ rest) = if b == 39 then read_quote rest else before b (read_on rest)

  -- behind a quote
  pub read_quote : Text → Option (Text × Text)
  read_quote [] = Some ([], [])
  read_quote (b ∷ rest) = if b == 39 then before 39 (read_on rest) else Some ([], b ∷ rest)

-- a literal begins with a quote
abbrev pub read_literal : Text → Option (Text × Text)
read_literal [] = None
read_literal (b ∷ rest) = if b == 39 then read_on rest else None

abbrev pub begins_with_quote : Text → Bool
begins_with_quote [] = false
begins_with_quote (b ∷ rest) = b == 39

abbrev pub LiteralsReadBack : Type 0
LiteralsReadBack = (text rest : Text) → begins_with_quote rest ≡ false → read_literal (literal text ++ rest) ≡ Some (text, rest)
