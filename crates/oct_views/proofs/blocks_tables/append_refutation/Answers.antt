use Rattle.oct_views.proofs.blocks_tables.append_refutation.Goals as goal

pub returns-clause-ok : goal.returns-clause-ok
returns-clause-ok g c = rw (c.name_of.ensures.value, c.author.ensures.value) at c.append_pieces.ensures.ok
