use Rattle.oct_notes.proofs.Held.{notes_changed, notes-insert}
use Rattle.oct_notes.proofs.notes.Notes.insert.Goals as goal

pub invariant_of-self : goal.invariant_of-self
invariant_of-self g c = notes_changed c.insert.result _ _ _ c.insert.ensures.ok c.insert.ensures.err c.self.invariant (notes-insert _ c.args.op c.self.invariant c.requires)
