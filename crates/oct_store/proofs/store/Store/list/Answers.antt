use Rattle.std.proofs.Common.{◌∙◌}
use Rattle.oct_store.proofs.Kept.{one_more, all_kept, rising_as}
use Rattle.oct_store.proofs.store.Store.list.Goals as goal

pub loop-op-preserved : goal.loop-op-preserved
loop-op-preserved g c = one_more _ _ c.in-Some.op.now c.in-Some.ensures.steps _ _ _ c.in_ok-push.ensures.items c.in_ok-copy.ensures _ c.loop-op.invariant

pub of_rising-requires : goal.of_rising-requires
of_rising-requires g c = rising_as _ _ (all_kept _ _ _ c.in-None.ensures.steps.0 c.loop-op.invariant)

pub returns : goal.returns
returns g c = c.of_rising.ensures ∙ all_kept _ _ _ c.in-None.ensures.steps.0 c.loop-op.invariant
