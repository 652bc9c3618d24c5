use Rattle.std.proofs.Common.{◌++◌, ap, ◌∙◌, subst}
use Rattle.std.proofs.lemmas.Result.{on_ok_weaker}
use Rattle.oct_views.specs.Index.{games_part}
use Rattle.oct_views.specs.Report.{games_head, style_inside}
use Rattle.oct_views.specs.declared.index.Links.TheVariants.{Here}
use Rattle.oct_sheet.proofs.Streamed.{front_put, front_then}
use Rattle.written.specs.Output.{AppendsFront}
use Rattle.oct_views.proofs.report.stream_tables.Goals as goal

pub returns-clause-kept : goal.returns-clause-kept
returns-clause-kept g c = on_ok_weaker c.stream_games.result (λ _. c.in_ok-rows.ensures.kept) c.stream_games.ensures

pub returns-clause-text : goal.returns-clause-text
returns-clause-text g c =
    let contents = g.W.Write.contents in
    let old = contents c.args.out.now in
    let later = contents c.stream_games.new.out in
    let piece = c.args.piece.now.items in
    let head = c.append_head.new.out.items in
    let next = c.stream_games.new.piece.items in
    let put = c.in_ok-append_head.ensures.ok ∙ ap (λ style. piece ++ games_head style) (c.deref.ensures.value ∙ c.in_ok-style.ensures) in
    on_ok_weaker c.stream_games.result
    (λ games. front_then old old later piece head next (games_head style_inside) _ (front_put old piece head _ put)
    (subst (λ rows. AppendsFront old later (head ++ games_part Here c.args.remarks.now rows) next) (c.deref-2.ensures.value ∙ c.in_ok-rows.ensures.rows) games))
    c.stream_games.ensures
