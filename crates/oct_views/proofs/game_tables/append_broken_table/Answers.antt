use Rattle.oct_views.proofs.game_tables.append_broken_table.Goals as goal

pub returns-clause-ok : goal.returns-clause-ok
returns-clause-ok g c = rw (c.deref-2.ensures.value, c.in_ok-append_broken_rows.ensures.ok, c.new-rows.ensures.items, c.deref.ensures.value) at c.append_table.ensures.ok
