use Rattle.oct_plot.proofs.plot.append_plot.Goals as goal

pub returns-clause-ok : goal.returns-clause-ok
returns-clause-ok g c = rw (c.deref.ensures.value, c.in_ok-told.ensures) at c.append_from.ensures.ok
