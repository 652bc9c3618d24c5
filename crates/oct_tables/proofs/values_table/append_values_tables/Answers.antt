use Rattle.oct_text.proofs.Joined.{joined_two}
use Rattle.oct_tables.proofs.values_table.append_values_tables.Goals as goal

pub returns-clause-ok : goal.returns-clause-ok
returns-clause-ok g c =
    joined_two c.append_back.result _ _ _ _ _
    c.in_ok-append_front.ensures.ok c.append_back.ensures.ok
