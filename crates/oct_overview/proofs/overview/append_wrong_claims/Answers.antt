use Rattle.oct_ops.proofs.Growing.{grown_each}
use Rattle.oct_overview.specs.Overview.{claim_refutation}
use Rattle.oct_overview.proofs.overview.append_wrong_claims.Goals as goal

pub loop-row-preserved : goal.loop-row-preserved
loop-row-preserved g c =
    grown_each (claim_refutation c.args.form c.args.remarks.now c.args.code c.args.values.now) c.args.rows.now c.loop-row.row-index _ c.row-item.result c.args.out.now.items c.loop-row.out.items c.append_claim_refutation.new.out.items
    c.loop-row-test.true c.row-item.is c.loop-row.invariant c.in_ok-append_claim_refutation.ensures.ok
