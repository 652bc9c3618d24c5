use Rattle.oct_text.proofs.Joined.{joined_two}
use Rattle.oct_views.proofs.game_tables.append_told_and_said.Goals as goal

pub returns-clause-ok : goal.returns-clause-ok
returns-clause-ok g c = joined_two c.append_said_paragraphs.result _ _ _ _ _ c.in_ok-append_told_or_found.ensures.ok c.append_said_paragraphs.ensures.ok
