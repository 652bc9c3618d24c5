use Rattle.oct_views.proofs.index.append_proved_and_known.Goals as goal

pub returns-clause-ok : goal.returns-clause-ok
returns-clause-ok g c = rw c.one_or.ensures at c.append_pieces.ensures.ok
