use Rattle.oct_views.proofs.periods_table.append_claim.Goals as goal

pub returns-clause-ok : goal.returns-clause-ok
returns-clause-ok g c = rw (c.name_of.ensures.value, c.author.ensures.value, c.start.ensures.value, c.period.ensures.value) at c.append_pieces.ensures.ok
