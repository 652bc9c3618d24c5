-- How a note lies in memory: the bytes of its name, and then those of its text.
use Rattle.std.specs.Prelude.{ℕ, ◌≤◌, List, length, take, drop}
use Rattle.oct_ops.specs.Operation.{Note, noted}
use Rattle.oct_ops.specs.Valid.{IsNote}

-- so many bytes are the name, and the rest is the text
abbrev pub note_of : ℕ → List ℕ → Note
note_of name_len bytes = noted (take name_len bytes) (drop name_len bytes)

-- the bytes are those of a note, and its name is among them
pub record IsStored (name_len : ℕ) (bytes : List ℕ) : Type 0 where
  pub valid : IsNote (note_of name_len bytes)
  pub within : name_len ≤ length bytes
