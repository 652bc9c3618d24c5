use Rattle.oct_text.proofs.Joined.{joined_four}
use Rattle.oct_views.proofs.site.append_image.Goals as goal

pub returns-clause-ok : goal.returns-clause-ok
returns-clause-ok g c =
    joined_four c.append_figure_end.result _ _ _ _ _ _ _ _ _
    (rw (c.deref.ensures.value, c.in_ok-title.ensures, c.pictured-shown.ensures) at c.in_ok-append_image_head.ensures.ok) c.in_ok-append_sentence.ensures.ok c.in_ok-append_pieces.ensures.ok c.append_figure_end.ensures.ok
