use Rattle.std.proofs.Common.{sym, ap, subst, ◌∙◌}
use Rattle.std.proofs.lemmas.List.Filters.{dedup_is}
use Rattle.oct_ops.specs.Operations.{listed}
use Rattle.oct_notes.specs.Notes.{AreRemoved, leaves}
use Rattle.oct_notes.proofs.Lives.{same_dot, dots_are_live, other_name, not_left, shown}
use Rattle.oct_notes.proofs.notes.Notes.live_dots.Goals as goal
use Rattle.oct_notes.proofs.notes.Notes.live_dots.Goals.{else-is_named-via-then-is_named+else-leaves, else-is_named-via-else-is_named}

pub loop-op-preserved-then-leaves : goal.loop-op-preserved-then-leaves
loop-op-preserved-then-leaves g c =
    shown _ _ _ _ c.in-Some.op.now c.in-Some.ensures.steps _ _ c.loop-op.invariant _ _ c.in_ok-push.ensures.items c.dot.ensures.value (ap (λ l. leaves l c.in-Some.op.now) c.removed-2.view_is ∙ sym c.leaves.ensures ∙ c.if-leaves.true) (sym c.is_named.ensures ∙ c.if-is_named.true)

pub loop-op-preserved : goal.loop-op-preserved
loop-op-preserved g c =
    elim c.else-is_named.branch [
      | else-is_named-via-then-is_named+else-leaves w ↦ not_left _ _ _ _ c.in-Some.op.now c.in-Some.ensures.steps _ _ c.loop-op.invariant (ap (λ l. leaves l c.in-Some.op.now) c.removed-2.view_is ∙ sym w.leaves.ensures ∙ w.if-leaves.false)
      | else-is_named-via-else-is_named w ↦ other_name _ _ _ _ c.in-Some.op.now c.in-Some.ensures.steps _ _ c.loop-op.invariant (sym c.is_named.ensures ∙ w.if-is_named.false)
    ]

pub returns : goal.returns
returns g c =
    let removed = subst (AreRemoved (listed c.args.self.now)) (sym c.removed-2.view_is) c.in_ok-removed.ensures in
    dots_are_live _ _ _ _ _ _ removed c.in-None.ensures.steps.0 c.loop-op.invariant (dedup_is same_dot _ _ c.dedup.ensures.filtered)
