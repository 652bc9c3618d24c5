use Rattle.std.proofs.Common.{◌++◌, ap, ◌∙◌}
use Rattle.oct_mex.specs.NimValues.{nim_values}
use Rattle.oct_verify.specs.Filing.{GameBlocks, blocks_in}
use Rattle.oct_verify.specs.Known.{known}
use Rattle.oct_plot.specs.Plot.{plot}
use Rattle.census_tell.proofs.asking.plot_text.Goals as goal

pub returns : goal.returns
returns c =
    let values = c.known_values.ensures.values ∙ ap (λ (h : GameBlocks). nim_values h.code (known (blocks_in h.blocks))) c.ledger.ensures in
    c.in_ok-write_plot.ensures.ok
    ∙ ap (λ front. front ++ plot c.code-code.result c.known_values.result.now c.find_period-found.result) c.new-text.ensures.items
    ∙ (λ i. plot (c.code-code.ensures i) (values i) (c.find_period-found.ensures.value i))
