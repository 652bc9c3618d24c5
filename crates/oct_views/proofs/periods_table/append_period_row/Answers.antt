use Rattle.oct_text.proofs.Joined.{joined_three}
use Rattle.oct_views.proofs.periods_table.append_period_row.Goals as goal

pub returns-clause-ok : goal.returns-clause-ok
returns-clause-ok g c =
    joined_three c.append_end.result _ _ _ _ _ _ _ c.in_ok-append_claim.ensures.ok (rw c.period.ensures.value at c.in_ok-append_status.ensures.ok) (rw c.is_withdrawn.ensures at c.append_end.ensures.ok)
