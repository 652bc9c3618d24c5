use Rattle.oct_text.proofs.Joined.{joined_five}
use Rattle.oct_sql.proofs.cell.append_values_row.Goals as goal

pub returns-clause-ok : goal.returns-clause-ok
returns-clause-ok g c =
    joined_five c.append_text-3.result _ _ _ _ _ _ _ _ _ _ _ c.in_ok-append_text.ensures.ok c.in_ok-append_code.ensures.ok c.in_ok-append_text-2.ensures.ok
    c.in_ok-append_values.ensures.ok c.append_text-3.ensures.ok
