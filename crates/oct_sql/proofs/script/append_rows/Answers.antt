use Rattle.oct_ops.proofs.Growing.{grown_each}
use Rattle.oct_sql.proofs.script.append_rows.Goals as goal

pub loop-row-preserved : goal.loop-row-preserved
loop-row-preserved g c =
    grown_each (g.S.Rows.text c.args.table.now) c.args.rows.now c.loop-row.row-index _ c.row-item.result c.args.out.now.items c.loop-row.out.items c.append.new.out.items
    c.loop-row-test.true c.row-item.is c.loop-row.invariant c.in_ok-append.ensures.ok
