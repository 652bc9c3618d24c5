use Rattle.std.proofs.Common.{◌≡◌, ◌++◌, Ok, ap, sym, ◌∙◌}
use Rattle.std.proofs.lemmas.Result.{on_ok_weaker}
use Rattle.oct_period.specs.Outcomes.{outcome_by, outcome_by_value}
use Rattle.oct_period.proofs.Winners.{told_by_value}
use Rattle.oct_text.specs.declared.form.Form.TheVariants.{Lines}
use Rattle.census_tell.specs.Asking.{known_text, value_of}
use Rattle.page.proofs.Outcomes.{outcome_shown}
use Rattle.page.proofs.playing.append_value.Goals as goal

pub returns-in-Ok : goal.returns-in-Ok
returns-in-Ok g c =
    let game = c.args.game.now in
    let heaps = c.args.heaps.now in
    let front = c.args.text.now.items in
    let known = c.position_value-position.result in
    let value = c.in-Ok.value in
    let there : Ok value ≡ known = sym c.in-Ok.is in
    let outcome =
    c.outcome_of.ensures ∙ ap outcome_by_value there ∙ told_by_value game.code heaps known c.position_value-position.ensures.right
    ∙ ap (outcome_by game.code heaps) c.position_value-position.ensures.value in
    on_ok_weaker c.append_known.result
    (λ is. is ∙ ap (λ o. front ++ known_text Lines value o) outcome ∙ ap (λ t. front ++ t) (outcome_shown game.code heaps (value_of game heaps) value (sym c.position_value-position.ensures.value ∙ sym there))) c.append_known.ensures
