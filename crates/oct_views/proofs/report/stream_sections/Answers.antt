use Rattle.std.proofs.Common.{◌++◌, sym, ap, ◌∙◌, subst}
use Rattle.std.specs.List.{flat_map}
use Rattle.std.proofs.lemmas.List.Folds.{flat_map-map}
use Rattle.std.proofs.lemmas.Result.{on_ok_weaker}
use Rattle.oct_ops.specs.Operations.{listed}
use Rattle.oct_views.specs.Report.{shown_section}
use Rattle.oct_sheet.specs.Sheet.{game_sheet, told_games}
use Rattle.written.specs.Output.{AppendsFront}
use Rattle.oct_views.proofs.report.stream_sections.Goals as goal

pub returns : goal.returns
returns g c =
    let ops = c.args.said.now.ops in
    let contents = g.W.Write.contents in
    let shown = shown_section c.args.remarks.now c.args.how in
    let codes = ap (flat_map (λ k. shown (game_sheet (listed ops) k))) (c.deref.ensures.value ∙ c.in_ok-codes.ensures) ∙ sym (flat_map-map shown (game_sheet (listed ops)) (told_games (listed ops))) in
    on_ok_weaker c.stream_each.result
    (subst (λ t. AppendsFront (contents c.args.out.now) (contents c.stream_each.new.out) (c.args.piece.now.items ++ t) c.stream_each.new.piece.items) codes)
    c.stream_each.ensures
