use Rattle.std.proofs.Common.{[], ◌++◌, ap, ◌∙◌}
use Rattle.oct_pages.specs.Contents.{game_content}
use Rattle.oct_plot.specs.Plot.{plot_with}
use Rattle.oct_text.proofs.Joined.{joined_three}
use Rattle.oct_views.proofs.report.append_figure.Goals as goal

pub returns-clause-ok : goal.returns-clause-ok
returns-clause-ok g c =
    let game = game_content c.args.game.now in
    joined_three c.append_figure_end.result _ _ _ _ _ _ _
    c.in_ok-append_pieces.ensures.ok
    (c.in_ok-append_plot.ensures.ok ∙ ap (λ vs. c.append_pieces.new.out.items ++ plot_with [] game.code vs game.proved) c.front_values-shown.ensures.value)
    c.append_figure_end.ensures.ok
