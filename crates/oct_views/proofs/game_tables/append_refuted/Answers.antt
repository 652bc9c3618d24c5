use Rattle.oct_text.proofs.Joined.{joined_four}
use Rattle.oct_views.proofs.game_tables.append_refuted.Goals as goal

pub returns-clause-ok : goal.returns-clause-ok
returns-clause-ok g c =
    joined_four c.append_pieces.result _ _ _ _ _ _ _ _ _
    c.in_ok-append_refuted_head.ensures.ok (rw c.deref.ensures.value at c.in_ok-append_refutations.ensures.ok) c.in_ok-append_broken.ensures.ok c.append_pieces.ensures.ok
