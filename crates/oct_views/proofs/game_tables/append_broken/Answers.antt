use Rattle.oct_text.proofs.Joined.{joined_two}
use Rattle.oct_views.proofs.game_tables.append_broken.Goals as goal

pub returns-clause-ok : goal.returns-clause-ok
returns-clause-ok g c = joined_two c.append_broken_table-2.result _ _ _ _ _ c.in_ok-append_broken_table.ensures.ok c.append_broken_table-2.ensures.ok
