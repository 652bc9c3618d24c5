use Rattle.oct_text.proofs.Joined.{joined_three}
use Rattle.oct_sql.proofs.cell.append_literal.Goals as goal

pub returns-clause-ok : goal.returns-clause-ok
returns-clause-ok g c =
    joined_three c.append_text-2.result _ _ _ _ _ _ _ c.in_ok-append_text.ensures.ok c.in_ok-append_doubled.ensures.ok c.append_text-2.ensures.ok
