use Rattle.oct_text.proofs.Joined.{joined_two}
use Rattle.oct_tables.proofs.values_table.append_padded.Goals as goal

pub returns-clause-ok : goal.returns-clause-ok
returns-clause-ok g c =
    joined_two c.append_pieces.result _ _ _ _ _
    c.in_ok-append_rows.ensures.ok c.append_pieces.ensures.ok
