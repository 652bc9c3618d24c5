use Rattle.oct_text.proofs.Joined.{joined_five}
use Rattle.oct_views.proofs.game_tables.append_game_tables.Goals as goal

pub returns-clause-ok : goal.returns-clause-ok
returns-clause-ok g c =
    joined_five c.append_claims.result _ _ _ _ _ _ _ _ _ _ _
    c.in_ok-append_told_and_said.ensures.ok c.in_ok-append_values_tables.ensures.ok c.in_ok-append_refuted.ensures.ok (rw c.deref.ensures.value at c.in_ok-append_blocks.ensures.ok) c.append_claims.ensures.ok
