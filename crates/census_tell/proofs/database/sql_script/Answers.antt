use Rattle.std.proofs.Common.{Ok, ap, sym, ◌∙◌}
use Rattle.census_state.specs.Replies.{text_alone}
use Rattle.census_state.proofs.Stepping.{then_with}
use Rattle.census_tell.proofs.database.sql_script.Goals as goal

pub returns-clause-ok : goal.returns-clause-ok
returns-clause-ok c =
    then_with _ _ _ c.in_ok-held.ensures.ok
    ∙ ap (λ text. Ok (text_alone text)) (sym c.in_ok-text.ensures)
    ∙ ap Ok (sym c.text_alone.ensures)

pub returns-clause-err : goal.returns-clause-err
returns-clause-err c = cc
