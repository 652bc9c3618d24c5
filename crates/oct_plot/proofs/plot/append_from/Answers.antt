use Rattle.oct_text.proofs.Joined.{joined_five}
use Rattle.oct_plot.proofs.plot.append_from.Goals as goal

pub returns-clause-ok : goal.returns-clause-ok
returns-clause-ok g c =
    joined_five c.append_pieces.result _ _ _ _ _ _ _ _ _ _ _
    (rw (c.deref.ensures.value, c.in_ok-title.ensures) at c.in_ok-append_head.ensures.ok) (rw c.of-frame.ensures.value at c.in_ok-append_period.ensures.ok) (rw c.of-frame.ensures.value at c.in_ok-append_axes.ensures.ok) c.in_ok-append_points.ensures.ok c.append_pieces.ensures.ok
