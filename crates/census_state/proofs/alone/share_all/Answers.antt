use Rattle.std.proofs.Common.{◌∙◌}
use Rattle.oct_ops.specs.OrderLaws.{op_cmp_total, op_cmp_exact}
use Rattle.oct_join.proofs.SetMerging.{joins_start, joins_next, joins_done}
use Rattle.census_state.proofs.alone.share_all.Goals as goal

pub loop-op-init : goal.loop-op-init
loop-op-init c =
    joins_start op_cmp_total op_cmp_exact c.args.part.now c.args.ops.now c.into_iter-op-iterator.result
    (c.into_iter-op-iterator.ensures.into_iter_gives ∙ c.iter_shared-op-items.ensures)

pub loop-op-preserved : goal.loop-op-preserved
loop-op-preserved c =
    joins_next op_cmp_total op_cmp_exact c.args.part.now c.args.ops.now c.loop-op.part c.share.new.self c.loop-op.op-iterator c.in-Some.op.now.value c.next.new.self c.in-Some.ensures.steps
    c.in_ok-share.ensures.ok c.loop-op.invariant

pub returns : goal.returns
returns c = joins_done op_cmp_total op_cmp_exact c.args.part.now c.args.ops.now c.loop-op.part c.loop-op.op-iterator c.in-None.ensures.steps.0 c.loop-op.invariant
