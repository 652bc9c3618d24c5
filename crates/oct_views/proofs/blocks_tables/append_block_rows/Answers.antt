use Rattle.oct_ops.proofs.Growing.{grown_each}
use Rattle.oct_views.specs.Game.{block_row}
use Rattle.oct_views.proofs.blocks_tables.append_block_rows.Goals as goal

pub loop-row-preserved : goal.loop-row-preserved
loop-row-preserved g c =
    grown_each (block_row c.args.remarks.now) c.args.blocks.now c.loop-row.row-index _ c.row-item.result c.args.out.now.items c.loop-row.out.items c.append_block_row.new.out.items
    c.loop-row-test.true c.row-item.is c.loop-row.invariant c.in_ok-append_block_row.ensures.ok
