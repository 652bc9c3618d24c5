use Rattle.std.proofs.Common.{◌++◌, map, refl, ap, ◌∙◌, drop}
use Rattle.std.proofs.lemmas.List.{drop_all}
use Rattle.oct_sheet.proofs.Streamed.{underway, underway_left, underway_put}
use Rattle.written.proofs.Piecewise.{spilled}
use Rattle.oct_json.proofs.Items.{array_begun, array_ended, item_written_at}
use Rattle.serde_json.specs.Written.{comma_if, compact_text, has_float}
use Rattle.oct_json.proofs.document.stream_array.Goals as goal

pub append_item-requires : goal.append_item-requires
append_item-requires g c = ap has_float c.in_ok-value.ensures ∙ c.requires _

pub loop-item-init : goal.loop-item-init
loop-item-init g c =
    let items = map g.T.ToJson.form c.args.items.now in
    underway (g.W.Write.contents c.args.out.now) _ c.append_text-2.new.out.items _
    (array_begun items items c.args.piece.now.items c.args.before.now c.append_text.new.out.items c.append_text-2.new.out.items refl
    c.in_ok-append_text.ensures.ok c.in_ok-append_text-2.ensures.ok)

pub loop-item-preserved : goal.loop-item-preserved
loop-item-preserved g c =
    let piece = c.loop-item.piece.items in
    let written = item_written_at g.T.ToJson.form c.loop-item.is_later c.args.items.now c.loop-item.item-index c.item-item.result _ piece
    c.append_item.new.out.items _ c.loop-item-test.true c.item-item.is
    (c.in_ok-append_item.ensures.ok ∙ ap (λ d. piece ++ (comma_if c.loop-item.is_later ++ compact_text d)) c.in_ok-value.ensures) refl in
    spilled _ _ _ _ c.append_item.new.out.items _ _ (underway_put _ _ _ piece c.append_item.new.out.items _ _ written c.loop-item.invariant) c.in_ok-spill.ensures.ok

pub returns : goal.returns
returns g c =
    underway_left _ _ _ c.loop-item.piece.items c.append_text-3.new.out.items _
    (array_ended g.T.ToJson.form c.loop-item.is_later (drop c.loop-item.item-index c.args.items.now) c.loop-item.piece.items c.append_text-3.new.out.items _
    (drop_all c.loop-item.item-index c.args.items.now c.loop-item-test.false) c.in_ok-append_text-3.ensures.ok refl)
    c.loop-item.invariant
