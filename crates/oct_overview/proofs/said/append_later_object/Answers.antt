use Rattle.oct_text.proofs.Joined.{joined_two}
use Rattle.oct_overview.proofs.said.append_later_object.Goals as goal

pub returns-clause-ok : goal.returns-clause-ok
returns-clause-ok g c = joined_two c.append_object.result _ _ _ _ _ c.in_ok-append_text.ensures.ok c.append_object.ensures.ok
