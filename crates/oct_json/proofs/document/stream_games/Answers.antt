use Rattle.std.proofs.Common.{◌++◌, sym, ap, ◌∙◌, subst}
use Rattle.std.proofs.lemmas.Result.{on_ok_weaker}
use Rattle.std.proofs.lemmas.Simd.{map-map}
use Rattle.oct_json.specs.Json.{game_data, list}
use Rattle.oct_ops.specs.Operations.{listed}
use Rattle.oct_sheet.specs.Sheet.{game_sheet, told_games}
use Rattle.serde_json.specs.Data.{array}
use Rattle.serde_json.specs.View.{items_of}
use Rattle.serde_json.specs.Written.{compact_text}
use Rattle.written.specs.Output.{AppendsFront}
use Rattle.oct_json.proofs.document.stream_games.Goals as goal

pub returns : goal.returns
returns g c =
    let ops = c.args.said.now.ops in
    let contents = g.W.Write.contents in
    let form = game_data c.args.remarks.now in
    let codes = ap (list (λ k. form (game_sheet (listed ops) k))) (c.deref.ensures.value ∙ c.in_ok-codes.ensures) ∙ ap (λ ds. array (items_of ds)) (sym (map-map form (game_sheet (listed ops)) (told_games (listed ops)))) in
    on_ok_weaker c.stream_each.result
    (subst (λ ds. AppendsFront (contents c.args.out.now) (contents c.stream_each.new.out) (c.args.piece.now.items ++ (c.args.before.now ++ compact_text ds)) c.stream_each.new.piece.items) codes)
    c.stream_each.ensures
