use Rattle.oct_text.proofs.Joined.{joined_two}
use Rattle.oct_tables.proofs.values_table.append_values_rows.Goals as goal

pub returns-clause-ok : goal.returns-clause-ok
returns-clause-ok g c =
    joined_two c.append_text.result _ _ _ _ _
    c.in_ok-append_values.ensures.ok (rw c.row_end.ensures at c.append_text.ensures.ok)
