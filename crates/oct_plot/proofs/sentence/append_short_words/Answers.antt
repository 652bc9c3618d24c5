use Rattle.oct_text.proofs.Joined.{joined_two}
use Rattle.oct_plot.proofs.sentence.append_short_words.Goals as goal

pub returns-clause-ok : goal.returns-clause-ok
returns-clause-ok g c =
    joined_two c.append_words.result _ _ _ _ _ c.in_ok-append_pieces.ensures.ok (rw (c.part.ensures, c.start.ensures.value, c.period.ensures.value) at c.append_words.ensures.ok)
