use Rattle.oct_ops.proofs.Growing.{grown_each}
use Rattle.oct_views.specs.Game.{refuted_row}
use Rattle.oct_views.proofs.blocks_tables.append_refuted_rows.Goals as goal

pub loop-row-preserved : goal.loop-row-preserved
loop-row-preserved g c =
    grown_each (λ r. refuted_row c.args.remarks.now c.args.which r.dot r.status) c.args.blocks.now c.loop-row.row-index _ c.row-item.result c.args.out.now.items c.loop-row.out.items c.append_refuted_row.new.out.items
    c.loop-row-test.true c.row-item.is c.loop-row.invariant c.in_ok-append_refuted_row.ensures.ok
