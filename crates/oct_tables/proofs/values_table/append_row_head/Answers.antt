use Rattle.oct_tables.proofs.values_table.append_row_head.Goals as goal

pub returns-clause-ok : goal.returns-clause-ok
returns-clause-ok g c = rw (c.row_before.ensures, c.cell_head.ensures) at c.append_pieces.ensures.ok
