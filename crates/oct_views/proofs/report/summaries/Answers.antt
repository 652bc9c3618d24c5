use Rattle.std.proofs.Common.{map, sym, ap, ◌∙◌}
use Rattle.std.proofs.lemmas.Result.{IfOk-weaker}
use Rattle.std.proofs.lemmas.Simd.{map-map}
use Rattle.oct_ops.specs.Operations.{listed}
use Rattle.oct_views.specs.Report.{shown_summary}
use Rattle.oct_sheet.specs.Sheet.{game_sheet, told_games}
use Rattle.oct_views.proofs.report.summaries.Goals as goal

pub returns-clause-rows : goal.returns-clause-rows
returns-clause-rows g c =
    let ops = c.args.said.now.ops in
    let row = shown_summary c.args.remarks.now in
    let codes = ap (map (λ k. row (game_sheet (listed ops) k))) (c.deref.ensures.value ∙ c.in_ok-codes.ensures) ∙ sym (map-map row (game_sheet (listed ops)) (told_games (listed ops))) in
    IfOk-weaker c.summaries_of.result _ _ (λ rows e. e ∙ codes) c.summaries_of.ensures.rows
