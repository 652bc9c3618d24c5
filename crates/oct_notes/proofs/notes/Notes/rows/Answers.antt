use Rattle.std.proofs.Common.{sym, subst}
use Rattle.oct_ops.specs.Operations.{listed}
use Rattle.oct_notes.specs.Notes.{AreRemoved}
use Rattle.oct_notes.proofs.Lives.{left_are_live}
use Rattle.oct_notes.proofs.notes.Notes.rows.Goals as goal

pub returns : goal.returns
returns g c =
    let removed = subst (AreRemoved (listed c.args.self.now)) (sym c.removed-2.view_is) c.in_ok-removed.ensures in
    left_are_live _ _ c.loop-op.rows.items _ removed c.in-None.ensures.steps.0 c.loop-op.invariant
