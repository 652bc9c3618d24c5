use Rattle.std.proofs.Common.{[], ◌∷◌, ◌++◌, ap, ◌∙◌}
use Rattle.std.proofs.lemmas.Result.{on_ok_weaker}
use Rattle.oct_pages.proofs.SheetLaws.{group_held, sheet_by-is}
use Rattle.oct_views.specs.Report.{shown_summary}
use Rattle.oct_views.proofs.report.add_known.Goals as goal

pub add_summary-requires : goal.add_summary-requires
add_summary-requires g c = group_held c.args.said.now.ops c.args.code c.args.game.now c.args.ops.now c.requires.game c.requires.its

pub returns : goal.returns
returns g c =
    let is = sheet_by-is c.args.said.now.ops c.args.code c.args.game.now c.args.ops.now c.requires.game c.requires.its in
    on_ok_weaker c.add_summary.result (λ e. e ∙ ap (λ s. c.args.rows.now.items ++ shown_summary c.args.remarks.now s ∷ []) is) c.add_summary.ensures
