use Rattle.std.proofs.Common.{◌∙◌}
use Rattle.oct_notes.specs.Notes.{note_order}
use Rattle.oct_notes.proofs.Leading.{by_lead}
use Rattle.oct_notes.proofs.row.Row.order.Goals as goal

pub returns-in_default : goal.returns-in_default
returns-in_default g c = by_lead _ _ _ _ c.self.invariant c.other.invariant _ c.cmp.ensures c.in_default.not-Equal ∙ (λ i. note_order (c.self.view_is i) (c.other.view_is i))
