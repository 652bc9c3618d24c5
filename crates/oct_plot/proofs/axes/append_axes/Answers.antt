use Rattle.oct_text.proofs.Joined.{joined_five}
use Rattle.oct_plot.proofs.axes.append_axes.Goals as goal

pub returns-clause-ok : goal.returns-clause-ok
returns-clause-ok g c =
    joined_five c.append_pieces-3.result _ _ _ _ _ _ _ _ _ _ _ c.in_ok-append_pieces.ensures.ok c.in_ok-append_ticks.ensures.ok c.in_ok-append_ticks-2.ensures.ok
    c.in_ok-append_pieces-2.ensures.ok c.append_pieces-3.ensures.ok
