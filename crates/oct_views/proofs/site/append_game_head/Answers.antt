use Rattle.oct_views.proofs.site.append_game_head.Goals as goal

pub returns-clause-ok : goal.returns-clause-ok
returns-clause-ok g c = rw c.one_or.ensures at c.append_pieces.ensures.ok
