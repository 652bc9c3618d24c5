use Rattle.oct_ops.proofs.Growing.{grown_each}
use Rattle.oct_overview.specs.Said.{said_line}
use Rattle.oct_overview.proofs.said.append_lines.Goals as goal

pub loop-long-preserved : goal.loop-long-preserved
loop-long-preserved g c =
    grown_each (said_line c.args.remarks.now c.args.code) c.args.said.now c.loop-long.long-index _ c.long-item.result c.args.out.now.items c.loop-long.out.items c.append_said_line.new.out.items
    c.loop-long-test.true c.long-item.is c.loop-long.invariant c.in_ok-append_said_line.ensures.ok
