use Rattle.std.proofs.Common.{◌≡◌, ◌++◌, ap, ◌∙◌}
use Rattle.std.proofs.lemmas.Result.{on_ok_weaker}
use Rattle.oct_ops.proofs.Growing.{grown_twice}
use Rattle.oct_views.specs.Index.{proved_and_known}
use Rattle.oct_views.proofs.index.append_totals.Goals as goal

pub returns-clause-ok : goal.returns-clause-ok
returns-clause-ok g c =
    let counts : proved_and_known c.with_period.result c.all_known.result ≡ proved_and_known _ _ = λ i. proved_and_known (c.with_period.ensures i) (c.all_known.ensures i) in
    on_ok_weaker c.append_proved_and_known.result (λ e. grown_twice _ _ _ _ _ c.in_ok-append_games_count.ensures.ok (e ∙ ap (λ t. c.append_games_count.new.out.items ++ t) counts))
    c.append_proved_and_known.ensures.ok
