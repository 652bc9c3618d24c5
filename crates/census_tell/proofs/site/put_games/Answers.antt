use Rattle.std.proofs.Common.{◌++◌, map, sym, ap, ◌∙◌, subst}
use Rattle.std.specs.List.{flat_map}
use Rattle.std.proofs.lemmas.List.Folds.{flat_map-map}
use Rattle.std.proofs.lemmas.Result.{on_ok_weaker}
use Rattle.std.proofs.lemmas.Simd.{map-map}
use Rattle.oct_ops.specs.Operations.{listed}
use Rattle.oct_sheet.specs.Sheet.{game_sheet, told_games}
use Rattle.oct_views.specs.Report.{shown_summary}
use Rattle.census_tell.specs.Site.{Filled, shown_files}
use Rattle.census_tell.proofs.site.put_games.Goals as goal

pub returns-clause-rows : goal.returns-clause-rows
returns-clause-rows g c =
    let ops = c.args.held.now.ops in
    let row = shown_summary c.args.remarks.now in
    let codes = ap (map (λ k. row (game_sheet (listed ops) k))) (c.deref.ensures.value ∙ c.in_ok-codes.ensures) ∙ sym (map-map row (game_sheet (listed ops)) (told_games (listed ops))) in
    on_ok_weaker c.put_each.result (λ e. e ∙ ap (λ t. c.args.rows.now.items ++ t) codes) c.put_each.ensures.rows

pub returns-clause-put : goal.returns-clause-put
returns-clause-put g c =
    let ops = c.args.held.now.ops in
    let files = shown_files c.args.beside c.args.proved.now c.args.remarks.now in
    let codes = ap (flat_map (λ k. files (game_sheet (listed ops) k))) (c.deref.ensures.value ∙ c.in_ok-codes.ensures) ∙ sym (flat_map-map files (game_sheet (listed ops)) (told_games (listed ops))) in
    on_ok_weaker c.put_each.result (subst (λ t. Filled g.S.Folder.puts c.args.folder.now t c.put_each.new.folder) codes) c.put_each.ensures.put
