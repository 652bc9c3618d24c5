use Rattle.std.proofs.Common.{◌++◌, ap, ◌∙◌}
use Rattle.oct_text.specs.declared.form.Form.TheVariants.{Lines}
use Rattle.census_tell.specs.Asking.{value_of, value_text}
use Rattle.census_tell.specs.Moving.{move_text}
use Rattle.census_search.proofs.FirstGames.{move_first, value_first}
use Rattle.page.proofs.playing.position_text.Goals as goal

pub returns : goal.returns
returns g c =
    let heaps = c.args.heaps.now in
    let game = c.in_ok-game.game in
    let is = c.in_ok-game.ensures in
    let value = value_first c.args.code c.args.count game is c.requires.some heaps in
    let move = move_first c.args.code c.args.count game is c.requires.some heaps in
    let first =
    c.in_ok-append_value.ensures ∙ ap (λ front. front ++ value_text Lines game.code heaps (value_of game heaps)) c.new-text.ensures.items
    ∙ (λ i. value_text Lines (is.code i) heaps (value i)) in
    c.in_ok-append_move.ensures ∙ (λ i. first i ++ move_text Lines heaps (move i))
