use Rattle.std.proofs.Common.{sym, subst}
use Rattle.oct_notes.specs.Notes.{AreNotes}
use Rattle.oct_notes.proofs.Held.{notes-remove}
use Rattle.oct_notes.proofs.notes.Notes.take_back.Goals as goal

pub invariant_of-self : goal.invariant_of-self
invariant_of-self g c = subst AreNotes (sym c.remove.ensures.gone) (notes-remove _ c.args.op.now c.self.invariant)
