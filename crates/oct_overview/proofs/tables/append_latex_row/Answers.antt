use Rattle.oct_text.proofs.Joined.{joined_three}
use Rattle.oct_overview.proofs.tables.append_latex_row.Goals as goal

pub returns-clause-ok : goal.returns-clause-ok
returns-clause-ok g c =
    joined_three c.append_text.result _ _ _ _ _ _ _ c.in_ok-append_pieces.ensures.ok c.in_ok-append_latex_period.ensures.ok c.append_text.ensures.ok
