use Rattle.oct_text.proofs.Joined.{joined_four}
use Rattle.oct_views.proofs.index.append_row_head.Goals as goal

pub returns-clause-ok : goal.returns-clause-ok
returns-clause-ok g c =
    joined_four c.append_pieces.result _ _ _ _ _ _ _ _ _
    (rw (c.row_begin.ensures, c.is_refuted.ensures) at c.in_ok-append_text.ensures.ok) c.in_ok-append_link.ensures.ok c.in_ok-append_said_in_row.ensures.ok c.append_pieces.ensures.ok
