use Rattle.oct_text.proofs.Joined.{joined_two}
use Rattle.oct_views.proofs.said.append_words.Goals as goal

pub returns-clause-ok : goal.returns-clause-ok
returns-clause-ok g c =
    joined_two c.append_in_parentheses.result _ _ _ _ _ c.in_ok-append_period_said.ensures.ok
    (rw c.name_of.ensures.value at c.append_in_parentheses.ensures.ok)
