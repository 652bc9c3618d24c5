use Rattle.oct_ops.proofs.Growing.{grown_each}
use Rattle.oct_overview.specs.Said.{later_object}
use Rattle.oct_overview.proofs.said.append_later.Goals as goal

pub loop-long-preserved : goal.loop-long-preserved
loop-long-preserved g c =
    grown_each (later_object c.args.remarks.now) c.args.rest.now c.loop-long.long-index _ c.long-item.result c.args.out.now.items c.loop-long.out.items c.append_later_object.new.out.items
    c.loop-long-test.true c.long-item.is c.loop-long.invariant c.in_ok-append_later_object.ensures.ok
