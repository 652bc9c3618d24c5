use Rattle.std.proofs.Common.{Ok, sym, ap, ◌∙◌}
use Rattle.census_state.proofs.Stepping.{then_with}
use Rattle.census_state.specs.Alone.{only_of}
use Rattle.census_state.specs.Replies.{text_alone}
use Rattle.census_tell.specs.Questions.{shown_among}
use Rattle.census_tell.proofs.overview.show_only.Goals as goal

pub returns-clause-ok : goal.returns-clause-ok
returns-clause-ok c =
    let ops = c.in_ok-held.held.ops in
    let part = c.as_record.ensures ∙ c.in_ok-part.ensures ∙ ap (λ codes. only_of codes ops) c.deref.ensures.value in
    then_with _ _ _ c.in_ok-held.ensures.ok ∙ then_with _ _ _ c.in_ok-named.ensures.ok
    ∙ ap (λ p. Ok (text_alone (shown_among c.args.view p ops))) (sym part)
    ∙ ap (λ text. Ok (text_alone text)) (sym c.in_ok-text.ensures)
    ∙ ap Ok (sym c.text_alone.ensures)
