use Rattle.oct_ops.proofs.Growing.{grown_each}
use Rattle.oct_views.specs.Game.{broken_row}
use Rattle.oct_views.proofs.periods_table.append_broken_rows.Goals as goal

pub loop-row-preserved : goal.loop-row-preserved
loop-row-preserved g c =
    grown_each (λ r. broken_row c.args.remarks.now c.args.values.now c.args.which r r.status) c.args.claims.now c.loop-row.row-index _ c.row-item.result c.args.out.now.items c.loop-row.out.items c.append_broken_row.new.out.items
    c.loop-row-test.true c.row-item.is c.loop-row.invariant c.in_ok-append_broken_row.ensures.ok
