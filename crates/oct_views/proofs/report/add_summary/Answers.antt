use Rattle.std.proofs.Common.{◌++◌, ◌∷◌, [], ap, ◌∙◌}
use Rattle.std.proofs.lemmas.Result.{on_ok_weaker}
use Rattle.oct_ops.specs.Operations.{listed}
use Rattle.oct_overview.proofs.Choosing.{least_found}
use Rattle.oct_overview.specs.Line.{with_least}
use Rattle.oct_pages.specs.Contents.{game_content}
use Rattle.oct_sheet.specs.Summary.{summary_of}
use Rattle.oct_views.proofs.report.add_summary.Goals as goal

pub with_least-shown-requires : goal.with_least-shown-requires
with_least-shown-requires g c = least_found c.args.game.now (listed c.args.ops.now) (game_content c.in_ok-sheet.sheet) _ c.in_ok-sheet.ensures c.find_period-found.ensures.value

pub returns : goal.returns
returns g c =
    on_ok_weaker c.add.result (λ e. e ∙ ap (λ s. c.args.rows.now.items ++ summary_of c.args.remarks.now s ∷ []) (c.with_least-shown.ensures ∙ ap with_least c.in_ok-sheet.ensures)) c.add.ensures.ok
