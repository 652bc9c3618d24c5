-- What a writer that may fail leaves.
use Rattle.std.specs.Prelude.{◌≡◌, ℕ, List, ◌++◌, take, Option}
use Rattle.std.specs.Io.KnownBytes.{Appends}

-- known bytes grow by the first so many of some bytes
abbrev pub AppendsPrefix : Option (List ℕ) → Option (List ℕ) → List ℕ → Type 0
AppendsPrefix old new bytes = (n : ℕ) × Appends old new (take n bytes)

-- how many bytes of a text are put together at most before they are written
abbrev pub piece_size : ℕ
piece_size = 65536

-- known bytes grow by the front of a piece, and the rest of it is still to be written
abbrev pub AppendsFront : Option (List ℕ) → Option (List ℕ) → List ℕ → List ℕ → Type 0
AppendsFront old new piece rest = (front : List ℕ) × Appends old new front × (front ++ rest ≡ piece)
