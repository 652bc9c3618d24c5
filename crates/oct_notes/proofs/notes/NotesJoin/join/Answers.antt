use Rattle.oct_notes.proofs.Held.{notes_joined}
use Rattle.oct_notes.proofs.notes.NotesJoin.join.Goals as goal

pub invariant_of-self : goal.invariant_of-self
invariant_of-self g c = notes_joined c.join.result _ _ _ c.join.ensures.ok c.join.ensures.err c.self.invariant c.other.invariant
