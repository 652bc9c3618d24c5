use Rattle.std.proofs.Common.{sym, ap, ◌∙◌}
use Rattle.oct_ops.specs.Views.{content}
use Rattle.oct_notes.proofs.Lives.{removed_next}
use Rattle.oct_notes.proofs.notes.Notes.removed.Goals as goal

pub loop-op-preserved-in-Continue-1 : goal.loop-op-preserved-in-Continue-1
loop-op-preserved-in-Continue-1 g c d = removed_next _ _ c.in-Some.op.now c.in-Removal.removal _ _ _ d _ c.in-Some.ensures.steps (sym c.body.ensures.value ∙ ap content c.in-Removal.is) c.dots.ensures.value c.in_ok-extend_from_slice.ensures.items (c.loop-op.invariant d)
