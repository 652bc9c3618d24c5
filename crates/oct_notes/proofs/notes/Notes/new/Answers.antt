use Rattle.std.proofs.Common.{sym, subst}
use Rattle.oct_notes.specs.Notes.{AreNotes}
use Rattle.oct_notes.proofs.Held.{notes-empty}
use Rattle.oct_notes.proofs.notes.Notes.new.Goals as goal

pub invariant_of-result : goal.invariant_of-result
invariant_of-result g c = subst AreNotes (sym c.new.ensures) notes-empty
