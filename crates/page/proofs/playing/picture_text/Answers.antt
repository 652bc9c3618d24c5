use Rattle.std.proofs.Common.{◌++◌, ap, sym, ◌∙◌}
use Rattle.oct_mex.specs.NimValues.{nim_values}
use Rattle.oct_period.specs.Found.{found_period}
use Rattle.oct_plot.specs.Plot.{plot}
use Rattle.oct_verify.specs.Filing.{GameBlocks, blocks_in}
use Rattle.oct_verify.specs.Known.{known}
use Rattle.census_search.specs.FirstGames.{first_values}
use Rattle.census_search.proofs.FirstGames.{first_known, same_period}
use Rattle.page.proofs.playing.picture_text.Goals as goal

pub returns : goal.returns
returns g c =
    let code = c.args.code in
    let count = c.args.count in
    let blocks = blocks_in c.in_ok-game.game.blocks in
    let known_to = c.in_ok-game.ensures.known in
    let values =
    c.known_values.ensures.values ∙ ap (λ (h : GameBlocks). nim_values h.code (known (blocks_in h.blocks))) c.ledger.ensures ∙ (λ i. nim_values (known_to.code i) (known_to.length i)) in
    let proved =
    c.find_period.ensures.value ∙ (λ i. found_period (known_to.code i) blocks)
    ∙ same_period code blocks (first_values code count) (known_to.length ∙ sym (first_known code count c.requires.some)) in
    c.in_ok-write_plot.ensures.ok
    ∙ ap (λ front. front ++ plot code c.known_values.result.now c.find_period.result) c.new-text.ensures.items
    ∙ (λ i. plot code (values i) (proved i))
