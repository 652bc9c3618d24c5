use Rattle.oct_sql.proofs.rows.ClaimsOfRowsPeriodRow.append.Goals as goal

pub returns-in-Refuted-clause-ok : goal.returns-in-Refuted-clause-ok
returns-in-Refuted-clause-ok g c = rw c.in-Refuted.is c.append_refuted_claim.ensures.ok

pub returns-in-Pending-clause-ok : goal.returns-in-Pending-clause-ok
returns-in-Pending-clause-ok g c = rw c.in-Pending.is c.append_pending_claim.ensures.ok
