use Rattle.std.proofs.Common.{[], ◌∷◌, ◌++◌, map, sym, ap, ◌∙◌, take, take_all}
use Rattle.std.proofs.lemmas.List.{map-append, take_more}
use Rattle.oct_code.specs.Code.{Code}
use Rattle.oct_ops.specs.Operations.{listed}
use Rattle.oct_pages.specs.GamesIn.{content_in}
use Rattle.oct_period.specs.GameContent.{GameContent}
use Rattle.oct_views.specs.Report.{shown_summary}
use Rattle.oct_sheet.specs.Sheet.{game_sheet}
use Rattle.oct_views.proofs.report.summaries_of.Goals as goal

pub loop-code-preserved : goal.loop-code-preserved
loop-code-preserved g c =
    let ops = c.args.said.now.ops in
    let row = λ (k : Code). shown_summary c.args.remarks.now (game_sheet (listed ops) k) in
    let before = take c.loop-code.code-index c.args.codes.now in
    record {
      rows = c.in_ok-add_row.ensures ∙ ap (λ t. t ++ row c.code-item.result ∷ []) c.loop-code.invariant.rows ∙ sym (map-append row before (c.code-item.result ∷ []))
          ∙ ap (map row) (ap (λ y. before ++ y ∷ []) c.code-item.is ∙ sym (take_more c.args.codes.now c.loop-code.code-index _ c.loop-code-test.true));
      kept = c.in_ok-keep.ensures ops (c.in_ok-game.ensures ∙ ap (content_in ops) (sym (ap (λ (h : GameContent). h.code) c.in_ok-game.ensures))) c.loop-code.invariant.kept;
    }

pub returns-clause-rows : goal.returns-clause-rows
returns-clause-rows g c = c.loop-code.invariant.rows ∙ ap (map (λ k. shown_summary c.args.remarks.now (game_sheet (listed c.args.said.now.ops) k))) (take_all c.loop-code.code-index c.args.codes.now c.loop-code-test.false)
