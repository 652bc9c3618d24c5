use Rattle.oct_text.proofs.Joined.{joined_three}
use Rattle.oct_overview.proofs.overview.append_tally.Goals as goal

pub returns-clause-ok : goal.returns-clause-ok
returns-clause-ok g c =
    joined_three c.append_pending.result _ _ _ _ _ _ _ c.in_ok-append_proved.ensures.ok c.in_ok-append_withdrawn_count.ensures.ok c.append_pending.ensures.ok
