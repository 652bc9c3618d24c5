use Rattle.oct_plot.proofs.axes.append_tick.Goals as goal

pub returns-in-Heaps-clause-ok : goal.returns-in-Heaps-clause-ok
returns-in-Heaps-clause-ok g c = rw c.in-Heaps.is (rw (c.scaled.ensures, c.saturating_sub.ensures) at c.append_marked.ensures.ok)

pub returns-in-Values-clause-ok : goal.returns-in-Values-clause-ok
returns-in-Values-clause-ok g c = rw c.in-Values.is (rw (c.scaled-in-Values.ensures, c.saturating_sub-in-Values.ensures) at c.append_marked-in-Values.ensures.ok)
