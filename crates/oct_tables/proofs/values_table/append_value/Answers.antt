use Rattle.oct_text.proofs.Joined.{joined_two}
use Rattle.oct_tables.proofs.values_table.append_value.Goals as goal

pub returns-clause-ok : goal.returns-clause-ok
returns-clause-ok g c =
    joined_two c.append_padded.result _ _ _ _ _
    c.in_ok-append_before.ensures.ok c.append_padded.ensures.ok
