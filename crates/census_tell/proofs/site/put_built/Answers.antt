use Rattle.std.proofs.Common.{◌++◌, ◌∷◌, [], ap, ◌∙◌, subst}
use Rattle.std.proofs.lemmas.Result.{on_ok_weaker}
use Rattle.oct_ops.specs.Operations.{listed}
use Rattle.oct_overview.proofs.Choosing.{least_found}
use Rattle.oct_overview.specs.Line.{with_least}
use Rattle.oct_pages.specs.Contents.{game_content}
use Rattle.oct_pages.proofs.SheetLaws.{group_held, sheet_by-is}
use Rattle.oct_sheet.specs.Summary.{summary_of}
use Rattle.census_tell.specs.Site.{Filled, files_of}
use Rattle.census_tell.proofs.site.put_built.Goals as goal

pub of_game-requires : goal.of_game-requires
of_game-requires g c = group_held c.args.held.now.ops c.args.code c.in_ok-game.game c.args.ops.now c.in_ok-game.ensures c.requires

pub of-least-requires : goal.of-least-requires
of-least-requires g c = least_found c.in_ok-game.game (listed c.args.ops.now) (game_content c.in_ok-sheet.sheet) _ c.in_ok-sheet.ensures c.find_period-found.ensures.value

pub with_least-shown-requires : goal.with_least-shown-requires
with_least-shown-requires g c = least_found c.in_ok-game.game (listed c.args.ops.now) (game_content c.in_ok-sheet.sheet) _ c.in_ok-sheet.ensures c.find_period-found.ensures.value

pub returns-clause-rows : goal.returns-clause-rows
returns-clause-rows g c =
    let is = c.in_ok-sheet.ensures ∙ sheet_by-is c.args.held.now.ops c.args.code c.in_ok-game.game c.args.ops.now c.in_ok-game.ensures c.requires in
    let shown = c.with_least-shown.ensures ∙ ap with_least is in
    on_ok_weaker c.put_sheet.result (λ _. c.in_ok-add.ensures.ok ∙ ap (λ s. c.args.rows.now.items ++ summary_of c.args.remarks.now s ∷ []) shown) c.put_sheet.ensures.ok

pub returns-clause-put : goal.returns-clause-put
returns-clause-put g c =
    let is = c.in_ok-sheet.ensures ∙ sheet_by-is c.args.held.now.ops c.args.code c.in_ok-game.game c.args.ops.now c.in_ok-game.ensures c.requires in
    let shown = c.with_least-shown.ensures ∙ ap with_least is in
    on_ok_weaker c.put_sheet.result (λ e. subst (λ s. Filled g.S.Folder.puts c.args.folder.now (files_of c.args.beside c.args.proved.now c.args.remarks.now s) c.put_sheet.new.folder) shown e) c.put_sheet.ensures.ok
