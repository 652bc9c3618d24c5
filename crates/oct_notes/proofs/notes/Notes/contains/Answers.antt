use Rattle.std.proofs.Common.{sym, ◌∙◌}
use Rattle.oct_notes.proofs.Held.{kind_of_held}
use Rattle.oct_notes.proofs.notes.Notes.contains.Goals as goal

pub returns-clause-kind : goal.returns-clause-kind
returns-clause-kind g c found = kind_of_held _ c.args.op.now c.self.invariant (sym c.contains.ensures ∙ found)
