use Rattle.std.proofs.Common.{◌++◌, ap, ◌∙◌}
use Rattle.std.proofs.lemmas.Result.{on_ok_weaker}
use Rattle.oct_ops.specs.Operations.{listed}
use Rattle.oct_json.specs.Json.{game_data}
use Rattle.oct_pages.specs.Contents.{game_content}
use Rattle.oct_overview.proofs.Choosing.{least_found}
use Rattle.serde_json.specs.Written.{compact_text}
use Rattle.oct_pages.proofs.SheetLaws.{group_held, sheet_by-is}
use Rattle.oct_json.proofs.document.append_built.Goals as goal

pub of_game-requires : goal.of_game-requires
of_game-requires c = group_held c.args.said.now.ops c.args.code c.in_ok-game.game c.args.ops.now c.in_ok-game.ensures c.requires

pub of-least-requires : goal.of-least-requires
of-least-requires c = least_found c.in_ok-game.game (listed c.args.ops.now) (game_content c.in_ok-sheet.sheet) _ c.in_ok-sheet.ensures c.find_period-found.ensures.value

pub returns : goal.returns
returns c =
    let is = c.in_ok-sheet.ensures ∙ sheet_by-is c.args.said.now.ops c.args.code c.in_ok-game.game c.args.ops.now c.in_ok-game.ensures c.requires in
    on_ok_weaker c.write_game_json.result (λ e. e ∙ ap (λ s. c.args.out.now.items ++ compact_text (game_data c.args.remarks.now s)) is) c.write_game_json.ensures.ok
