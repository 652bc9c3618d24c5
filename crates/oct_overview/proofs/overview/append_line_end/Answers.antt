use Rattle.oct_text.proofs.Joined.{joined_three}
use Rattle.oct_overview.proofs.overview.append_line_end.Goals as goal

pub returns-clause-ok : goal.returns-clause-ok
returns-clause-ok g c =
    joined_three c.append_word.result _ _ _ _ _ _ _
    (rw c.is_withdrawn.ensures at c.in_ok-append_withdrawn.ensures.ok)
    (rw (c.name_of.ensures.value, c.author.ensures.value) at c.in_ok-append_name.ensures.ok) c.append_word.ensures.ok
