use Rattle.oct_text.proofs.Joined.{joined_three}
use Rattle.oct_plot.proofs.plot.append_points.Goals as goal

pub returns-clause-ok : goal.returns-clause-ok
returns-clause-ok g c =
    joined_three c.append_pieces.result _ _ _ _ _ _ _
    (rw c.points_kind.ensures at c.in_ok-append_points_head.ensures.ok) (rw (c.deref.ensures.value, c.in_ok-points.ensures) at c.in_ok-append_ways.ensures.ok) c.append_pieces.ensures.ok
