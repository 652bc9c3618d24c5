use Rattle.std.proofs.Common.{◌++◌, ap, ◌∙◌}
use Rattle.std.proofs.lemmas.Result.{on_ok_weaker}
use Rattle.oct_ops.specs.Operations.{listed}
use Rattle.oct_pages.specs.Contents.{game_content}
use Rattle.oct_pages.proofs.SheetLaws.{group_held, sheet_by-is}
use Rattle.oct_overview.proofs.Choosing.{least_found}
use Rattle.oct_sql.specs.Script.{game_rows}
use Rattle.oct_sql.proofs.script.append_built.Goals as goal

pub of_game-requires : goal.of_game-requires
of_game-requires g c = group_held c.args.said.now.ops c.args.code c.in_ok-game.game c.args.ops.now c.in_ok-game.ensures c.requires

pub of-least-requires : goal.of-least-requires
of-least-requires g c = least_found c.in_ok-game.game (listed c.args.ops.now) (game_content c.in_ok-sheet.sheet) _ c.in_ok-sheet.ensures c.find_period-found.ensures.value

pub returns-clause-ok : goal.returns-clause-ok
returns-clause-ok g c =
    let is = c.in_ok-sheet.ensures ∙ sheet_by-is c.args.said.now.ops c.args.code c.in_ok-game.game c.args.ops.now c.in_ok-game.ensures c.requires in
    on_ok_weaker c.append_sheet.result (λ e. e ∙ ap (λ s. c.args.out.now.items ++ game_rows s) is) c.append_sheet.ensures.ok
