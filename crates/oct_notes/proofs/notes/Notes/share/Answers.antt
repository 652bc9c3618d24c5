use Rattle.oct_notes.proofs.Held.{notes_changed, notes-insert}
use Rattle.oct_notes.proofs.notes.Notes.share.Goals as goal

pub invariant_of-self : goal.invariant_of-self
invariant_of-self g c = notes_changed c.share.result _ _ _ c.share.ensures.ok c.share.ensures.err c.self.invariant (notes-insert _ c.args.op.now.value c.self.invariant c.requires)
