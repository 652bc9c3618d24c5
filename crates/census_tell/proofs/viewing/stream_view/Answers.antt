use Rattle.std.proofs.lemmas.Result.{on_ok_weaker}
use Rattle.census_state.proofs.Stepping.{then_with}
use Rattle.census_tell.specs.Questions.{shown_in}
use Rattle.census_tell.proofs.viewing.stream_view.Goals as goal

pub returns-clause-ok : goal.returns-clause-ok
returns-clause-ok g c =
    on_ok_weaker c.write_view.result (λ wrote. (shown_in c.args.view c.in_ok-held.held.ops, then_with _ _ _ c.in_ok-held.ensures.ok, wrote)) c.write_view.ensures.ok
