use Rattle.oct_text.proofs.Joined.{joined_five}
use Rattle.oct_overview.proofs.tables.append_csv_row.Goals as goal

pub returns-clause-ok : goal.returns-clause-ok
returns-clause-ok g c =
    joined_five c.append_text.result _ _ _ _ _ _ _ _ _ _ _ c.in_ok-append_pieces.ensures.ok c.in_ok-append_csv_period.ensures.ok
    c.in_ok-append_csv_tally.ensures.ok c.in_ok-append_csv_tally-2.ensures.ok c.append_text.ensures.ok
