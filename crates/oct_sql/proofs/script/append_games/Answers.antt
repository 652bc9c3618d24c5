use Rattle.std.proofs.Common.{◌++◌, ap, ◌∙◌, sym}
use Rattle.std.specs.List.{flat_map}
use Rattle.std.proofs.lemmas.List.Folds.{flat_map-map}
use Rattle.std.proofs.lemmas.Result.{on_ok_weaker}
use Rattle.oct_ops.specs.Operations.{listed}
use Rattle.oct_sheet.specs.Sheet.{game_sheet, told_games}
use Rattle.oct_sql.specs.Script.{game_rows}
use Rattle.oct_sql.proofs.script.append_games.Goals as goal

pub returns-clause-ok : goal.returns-clause-ok
returns-clause-ok g c =
    let ops = c.args.said.now.ops in
    let codes = ap (flat_map (λ k. game_rows (game_sheet (listed ops) k))) (c.deref.ensures.value ∙ c.in_ok-codes.ensures) ∙ sym (flat_map-map game_rows (game_sheet (listed ops)) (told_games (listed ops))) in
    on_ok_weaker c.append_each.result (λ e. e ∙ ap (λ t. c.args.out.now.items ++ t) codes) c.append_each.ensures.ok
