use Rattle.oct_text.proofs.Joined.{joined_three}
use Rattle.oct_overview.proofs.said.append_object.Goals as goal

pub returns-clause-ok : goal.returns-clause-ok
returns-clause-ok g c =
    joined_three c.append_text.result _ _ _ _ _ _ _ c.in_ok-append_object_front.ensures.ok
    (rw c.name_of.ensures.value at c.in_ok-append_name.ensures.ok) c.append_text.ensures.ok
