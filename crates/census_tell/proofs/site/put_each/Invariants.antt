use Rattle.std.proofs.Common.{◌≡◌, ◌++◌, map, take, drop}
use Rattle.std.specs.List.{flat_map}
use Rattle.oct_ops.specs.Operations.{listed}
use Rattle.oct_sheet.specs.Sheet.{game_sheet}
use Rattle.oct_views.specs.Report.{shown_summary}
use Rattle.census_tell.proofs.Shelves.{Filling}
use Rattle.census_tell.specs.Site.{shown_files}
use Rattle.census_tell.proofs.site.put_each.Given as goal

abbrev pub invariant-loop-code : goal.invariant-loop-code
invariant-loop-code g l = record {
  rows : l.rows.items ≡ l.fn.rows.items ++ map (λ k. shown_summary l.fn.remarks (game_sheet (listed l.fn.held.ops) k)) (take l.code-index l.codes);
  put : Filling g.S.Folder.puts l.fn.folder l.folder (flat_map (λ k. shown_files l.fn.beside l.fn.proved l.fn.remarks (game_sheet (listed l.fn.held.ops) k)) (drop l.code-index l.codes))
      (flat_map (λ k. shown_files l.fn.beside l.fn.proved l.fn.remarks (game_sheet (listed l.fn.held.ops) k)) l.codes);
}
