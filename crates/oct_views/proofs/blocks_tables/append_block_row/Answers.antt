use Rattle.oct_views.proofs.blocks_tables.append_block_row.Goals as goal

pub returns-clause-ok : goal.returns-clause-ok
returns-clause-ok g c = rw (c.name_of.ensures.value, c.author.ensures.value, c.status_word.ensures, c.withdrawn_word.ensures, c.is_withdrawn.ensures) at c.append_pieces.ensures.ok
