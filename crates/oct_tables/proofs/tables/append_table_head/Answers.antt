use Rattle.oct_text.proofs.Joined.{joined_three}
use Rattle.oct_tables.proofs.tables.append_table_head.Goals as goal

pub returns-clause-ok : goal.returns-clause-ok
returns-clause-ok g c = joined_three c.append_pieces-2.result _ _ _ _ _ _ _ c.in_ok-append_pieces.ensures.ok c.in_ok-append_columns.ensures.ok c.append_pieces-2.ensures.ok
