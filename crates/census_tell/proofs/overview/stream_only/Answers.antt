use Rattle.std.proofs.Common.{Ok, sym, ap, ◌∙◌}
use Rattle.std.proofs.lemmas.Result.{on_ok_weaker}
use Rattle.census_state.proofs.Stepping.{then_with}
use Rattle.census_state.specs.Alone.{only_of}
use Rattle.census_state.specs.Replies.{text_alone}
use Rattle.census_tell.specs.Questions.{shown_among}
use Rattle.census_tell.proofs.overview.stream_only.Goals as goal

pub returns-clause-ok : goal.returns-clause-ok
returns-clause-ok g c =
    let ops = c.in_ok-held.held.ops in
    let part = c.as_record.ensures ∙ c.in_ok-part.ensures ∙ ap (λ codes. only_of codes ops) c.deref.ensures.value in
    on_ok_weaker c.write_view.result
    (λ wrote. (
      shown_among c.args.view c.as_record.result.now.ops ops,
      then_with _ _ _ c.in_ok-held.ensures.ok ∙ then_with _ _ _ c.in_ok-named.ensures.ok ∙ ap (λ p. Ok (text_alone (shown_among c.args.view p ops))) (sym part),
      wrote,
    ))
    c.write_view.ensures.ok
