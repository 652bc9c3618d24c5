use Rattle.std.proofs.Common.{◌∙◌}
use Rattle.oct_ops.specs.Operations.{listed}
use Rattle.oct_pages.proofs.Building.{begins, built_all, builds_next, next_game}
use Rattle.oct_pages.proofs.built.build.Goals as goal

pub loop-op-init : goal.loop-op-init
loop-op-init g c =
    begins c.args.code (listed c.args.ops.now) c.into_iter-op-iterator.result c.args.game
    (c.into_iter-op-iterator.ensures.into_iter_gives ∙ c.iter_shared-op-items.ensures) c.requires.new c.requires.all

pub share-requires : goal.share-requires
share-requires g c = next_game c.args.code (listed c.args.ops.now) c.loop-op.op-iterator c.next.new.self c.loop-op.game c.in-Some.op.now.value c.in-Some.ensures.steps c.loop-op.invariant

pub loop-op-preserved : goal.loop-op-preserved
loop-op-preserved g c =
    builds_next c.args.code (listed c.args.ops.now) c.loop-op.op-iterator c.next.new.self c.loop-op.game c.in-Some.op.now.value c.in-Some.ensures.steps c.loop-op.invariant
    c.share.new.self c.in_ok-share.ensures.ok

pub returns : goal.returns
returns g c = built_all c.args.code c.args.ops.now c.loop-op.op-iterator c.loop-op.game c.in-None.ensures.steps.0 c.requires.all c.loop-op.invariant
