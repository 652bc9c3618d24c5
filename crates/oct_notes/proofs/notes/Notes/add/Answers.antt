use Rattle.oct_notes.proofs.Held.{notes_changed, notes-insert}
use Rattle.oct_notes.proofs.notes.Notes.add.Goals as goal

pub invariant_of-self : goal.invariant_of-self
invariant_of-self g c = notes_changed c.add.result _ _ _ c.add.ensures.ok c.add.ensures.err c.self.invariant (notes-insert _ c.args.op.now c.self.invariant c.requires)
