use Rattle.oct_views.proofs.game_tables.append_blocks.Goals as goal

pub returns-clause-ok : goal.returns-clause-ok
returns-clause-ok g c = rw (c.deref.ensures.value, c.in_ok-append_block_rows.ensures.ok, c.new-rows.ensures.items) at c.append_table.ensures.ok
