use Rattle.oct_text.proofs.Joined.{joined_three}
use Rattle.oct_plot.proofs.sentence.append_proved.Goals as goal

pub returns-clause-ok : goal.returns-clause-ok
returns-clause-ok g c =
    joined_three c.append_pieces.result _ _ _ _ _ _ _
    c.in_ok-append_goes_on.ensures.ok c.in_ok-append_period_words.ensures.ok c.append_pieces.ensures.ok
