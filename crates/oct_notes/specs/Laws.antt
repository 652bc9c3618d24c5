-- What the live notes of a set are.
use Rattle.std.specs.Prelude.{◌≡◌, ◌↔◌, true, false, IsTrue, Contains}
use Rattle.oct_ops.specs.Body.{Body, Operation}
use Rattle.oct_ops.specs.Body as kind
use Rattle.oct_ops.specs.Operation.{Dot}
use Rattle.oct_ops.specs.Operations.{Operations, contains, insert, listed}
use Rattle.oct_ops.specs.Sets.{rises}
use Rattle.oct_notes.specs.Notes.{is_note, note_order, live_notes}

-- the body is a removal, and the dot is one of those that it names
abbrev pub Removes : Body → Dot → Type 0
Removes (kind.Block b) dot = ⊥
Removes (kind.Period p) dot = ⊥
Removes (kind.Note n) dot = ⊥
Removes (kind.Removal r) dot = Contains r.dots dot

-- the note is in the set, and no operation of the set removes its dot
pub record IsUnremoved (ops : Operations) (note : Operation) : Type 0 where
  pub held : contains ops note ≡ true
  pub noted : is_note note.body ≡ true
  pub unremoved : (op : Operation) → contains ops op ≡ true → ¬ Removes op.body note.dot

abbrev pub LiveNotesAreUnremoved : Type 0
LiveNotesAreUnremoved = (ops : Operations) (note : Operation) → Contains (live_notes (listed ops)) note ↔ IsUnremoved ops note

-- each live note is below all that follow it
abbrev pub LiveNotesRise : Type 0
LiveNotesRise = (ops : Operations) → IsTrue (rises note_order (live_notes (listed ops)))

-- what is no note, and removes no note of the set
pub record RemovesNothing (ops : Operations) (op : Operation) : Type 0 where
  pub no_note : is_note op.body ≡ false
  pub nothing : (note : Operation) → contains ops note ≡ true → is_note note.body ≡ true → ¬ Removes op.body note.dot

-- taking it in leaves the live notes
abbrev pub NothingIsRemoved : Type 0
NothingIsRemoved = (ops : Operations) (op : Operation) → RemovesNothing ops op → live_notes (listed (insert ops op)) ≡ live_notes (listed ops)
