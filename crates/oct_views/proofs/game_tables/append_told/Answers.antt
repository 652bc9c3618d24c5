use Rattle.oct_text.proofs.Joined.{joined_four}
use Rattle.oct_views.proofs.game_tables.append_told.Goals as goal

pub returns-clause-ok : goal.returns-clause-ok
returns-clause-ok g c =
    joined_four c.append_unclaimed.result _ _ _ _ _ _ _ _ _
    c.in_ok-append_pieces.ensures.ok c.in_ok-append_sentence.ensures.ok c.in_ok-append_pieces-2.ensures.ok (rw c.deref.ensures.value at c.append_unclaimed.ensures.ok)
