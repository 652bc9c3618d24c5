use Rattle.oct_text.proofs.Joined.{joined_three}
use Rattle.oct_plot.proofs.plot.append_runs.Goals as goal

pub returns-clause-ok : goal.returns-clause-ok
returns-clause-ok g c =
    joined_three c.append_start.result _ _ _ _ _ _ _
    (rw (c.from-start.ensures, c.from-length.ensures, c.start.ensures.value, c.period.ensures.value) at c.in_ok-append_run.ensures.ok)
    (rw (c.from-start.ensures, c.from-length.ensures, c.start.ensures.value, c.period.ensures.value) at c.in_ok-append_run-2.ensures.ok)
    (rw (c.from-start.ensures, c.start.ensures.value) at c.append_start.ensures.ok)
