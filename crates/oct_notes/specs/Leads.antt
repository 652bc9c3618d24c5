-- How a name begins, as one number.
use Rattle.std.specs.Prelude.{◌≡◌, ℕ, zero, suc, ◌+◌, ◌*◌, ◌^◌, ◌<◌, List, [], ◌∷◌, slice_index}
use Rattle.oct_ops.specs.Body.{Operation}
use Rattle.oct_notes.specs.Notes.{name_of}

-- the first k bytes, the first of them highest, and 0 for each that is not there
abbrev pub lead : ℕ → List ℕ → ℕ
lead zero bytes = 0
lead (suc k) [] = 0
lead (suc k) (byte ∷ bytes) = byte * 256 ^ k + lead k bytes

-- the first eight bytes of a name
abbrev pub lead_of : List ℕ → ℕ
lead_of name = lead 8 name

abbrev pub AreBytes : List ℕ → Type 0
AreBytes bytes = (i : ℕ) → slice_index bytes i < 256

-- the name of the note begins so, and all of it is bytes
pub record Leads (number : ℕ) (note : Operation) : Type 0 where
  pub is : number ≡ lead_of (name_of note.body)
  pub bytes : AreBytes (name_of note.body)
