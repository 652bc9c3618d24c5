use Rattle.oct_ops.proofs.Growing.{grown_each}
use Rattle.oct_views.specs.Game.{said_between}
use Rattle.oct_views.proofs.said.append_each.Goals as goal

pub loop-long-preserved : goal.loop-long-preserved
loop-long-preserved g c =
    grown_each (said_between c.args.before.now c.args.behind.now c.args.remarks.now) c.args.said.now c.loop-long.long-index _ c.long-item.result c.args.out.now.items c.loop-long.out.items c.append_between.new.out.items
    c.loop-long-test.true c.long-item.is c.loop-long.invariant c.in_ok-append_between.ensures.ok
