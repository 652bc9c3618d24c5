use Rattle.oct_ops.proofs.Growing.{extends_trans}
use Rattle.oct_text.proofs.Joined.{joined_five}
use Rattle.oct_views.proofs.site.append_game_html.Goals as goal

pub returns-clause-ok : goal.returns-clause-ok
returns-clause-ok g c =
    joined_five c.append_html_end.result _ _ _ _ _ _ _ _ _ _ _
    c.in_ok-append_game_head.ensures.ok c.in_ok-append_page_link.ensures.ok c.in_ok-append_image.ensures.ok (rw c.of.ensures.value at c.in_ok-append_game_tables.ensures.ok) c.append_html_end.ensures.ok

pub returns-clause-grown : goal.returns-clause-grown
returns-clause-grown g c =
    extends_trans _ _ _ (extends_trans _ _ _ (extends_trans _ _ _ (extends_trans _ _ _ c.in_ok-append_game_head.ensures.grown c.in_ok-append_page_link.ensures.grown) c.in_ok-append_image.ensures.grown) c.in_ok-append_game_tables.ensures.grown)
    c.append_html_end.ensures.grown
