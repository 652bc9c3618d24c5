use Rattle.std.proofs.Common.{map, refl, drop}
use Rattle.std.proofs.lemmas.List.{drop_all}
use Rattle.oct_ops.specs.Operations.{listed}
use Rattle.oct_json.specs.Json.{game_data}
use Rattle.oct_sheet.specs.Sheet.{game_sheet}
use Rattle.oct_sheet.proofs.Streamed.{underway, underway_left, underway_put}
use Rattle.written.proofs.Piecewise.{spilled}
use Rattle.oct_json.proofs.Items.{array_begun, array_ended, item_written_at}
use Rattle.oct_json.proofs.document.stream_each.Goals as goal

pub loop-code-init : goal.loop-code-init
loop-code-init g c =
    let items = map (λ k. game_data c.args.remarks.now (game_sheet (listed c.args.said.now.ops) k)) c.args.codes.now in
    underway (g.W.Write.contents c.args.out.now) _ c.append_text-2.new.out.items _
    (array_begun items items c.args.piece.now.items c.args.before.now c.append_text.new.out.items c.append_text-2.new.out.items refl
    c.in_ok-append_text.ensures.ok c.in_ok-append_text-2.ensures.ok)

pub loop-code-preserved : goal.loop-code-preserved
loop-code-preserved g c =
    let piece = c.loop-code.piece.items in
    let written = item_written_at (λ k. game_data c.args.remarks.now (game_sheet (listed c.args.said.now.ops) k)) c.loop-code.is_later c.args.codes.now c.loop-code.code-index c.code-item.result _ piece
    c.append_game.new.out.items _ c.loop-code-test.true c.code-item.is c.in_ok-append_game.ensures refl in
    spilled _ _ _ _ c.append_game.new.out.items _ _ (underway_put _ _ _ piece c.append_game.new.out.items _ _ written c.loop-code.invariant) c.in_ok-spill.ensures.ok

pub returns : goal.returns
returns g c =
    underway_left _ _ _ c.loop-code.piece.items c.append_text-3.new.out.items _
    (array_ended (λ k. game_data c.args.remarks.now (game_sheet (listed c.args.said.now.ops) k)) c.loop-code.is_later (drop c.loop-code.code-index c.args.codes.now) c.loop-code.piece.items c.append_text-3.new.out.items _
    (drop_all c.loop-code.code-index c.args.codes.now c.loop-code-test.false) c.in_ok-append_text-3.ensures.ok refl)
    c.loop-code.invariant
