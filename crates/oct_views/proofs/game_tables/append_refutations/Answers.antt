use Rattle.oct_text.proofs.Joined.{joined_two}
use Rattle.oct_views.proofs.game_tables.append_refutations.Goals as goal

pub returns-clause-ok : goal.returns-clause-ok
returns-clause-ok g c = joined_two c.append_refutation_table-2.result _ _ _ _ _ c.in_ok-append_refutation_table.ensures.ok c.append_refutation_table-2.ensures.ok
