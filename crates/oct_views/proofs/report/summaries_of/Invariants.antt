use Rattle.std.proofs.Common.{◌≡◌, map, take}
use Rattle.oct_ops.specs.Operations.{listed}
use Rattle.oct_pages.specs.GamesIn.{AreGamesIn}
use Rattle.oct_views.specs.Report.{shown_summary}
use Rattle.oct_sheet.specs.Sheet.{game_sheet}
use Rattle.oct_views.proofs.report.summaries_of.Given as goal

abbrev pub invariant-loop-code : goal.invariant-loop-code
invariant-loop-code g l = record {
  rows : l.rows.items ≡ map (λ k. shown_summary l.remarks (game_sheet (listed l.fn.said.ops) k)) (take l.code-index l.codes);
  kept : AreGamesIn l.fn.said.ops l.kept.games;
}
