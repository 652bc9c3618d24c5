use Rattle.oct_text.proofs.Joined.{joined_five}
use Rattle.oct_overview.proofs.overview.append_line.Goals as goal

pub returns-clause-ok : goal.returns-clause-ok
returns-clause-ok g c =
    joined_five c.append_said.result _ _ _ _ _ _ _ _ _ _ _ c.in_ok-append_known.ensures.ok c.in_ok-append_period.ensures.ok
    c.in_ok-append_blocks.ensures.ok c.in_ok-append_claims.ensures.ok c.append_said.ensures.ok
