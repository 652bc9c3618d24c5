use Rattle.oct_views.proofs.records.append_note.Goals as goal

pub returns-clause-ok : goal.returns-clause-ok
returns-clause-ok g c = rw (c.name_of.ensures, c.author.ensures.value, c.name.ensures.value, c.text.ensures.value) at c.append_pieces.ensures.ok
