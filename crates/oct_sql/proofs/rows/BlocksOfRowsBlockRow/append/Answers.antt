use Rattle.oct_sql.proofs.rows.BlocksOfRowsBlockRow.append.Goals as goal

pub returns-in-Refuted-clause-ok : goal.returns-in-Refuted-clause-ok
returns-in-Refuted-clause-ok g c = rw c.in-Refuted.is c.append_block.ensures.ok
