use Rattle.std.proofs.Common.{◌≡◌, ◌++◌, sym, ap, ◌∙◌}
use Rattle.std.specs.List.{flat_map}
use Rattle.std.proofs.lemmas.List.{append-nil}
use Rattle.oct_sheet.proofs.Pushing.{text_pushed}
use Rattle.oct_sheet.proofs.Streamed.{underway, underway_left, underway_put}
use Rattle.oct_views.specs.Index.{periodic_row}
use Rattle.written.proofs.Piecewise.{spilled}
use Rattle.oct_views.proofs.index.stream_periodic_rows.Goals as goal

pub loop-row-init : goal.loop-row-init
loop-row-init g c =
    let piece = c.args.piece.now.items in
    let all : c.into_iter-row-iterator.result ≡ c.args.found.now.keys = c.into_iter-row-iterator.ensures.into_iter_gives.0 in
    underway (g.W.Write.contents c.args.out.now) _ piece _ (ap (λ rows. piece ++ flat_map (periodic_row c.args.links) rows) all)

pub loop-row-preserved : goal.loop-row-preserved
loop-row-preserved g c =
    let text = periodic_row c.args.links in
    let piece = c.loop-row.piece.items in
    let put = text_pushed text c.in-Some.row.now c.next.new.self piece c.append_periodic_row.new.out.items _ c.in_ok-append_periodic_row.ensures.ok
    (ap (λ rows. piece ++ flat_map text rows) (sym c.in-Some.ensures.steps)) in
    spilled _ _ _ _ c.append_periodic_row.new.out.items _ _ (underway_put _ _ _ piece c.append_periodic_row.new.out.items _ _ put c.loop-row.invariant) c.in_ok-spill.ensures.ok

pub returns : goal.returns
returns g c =
    let piece = c.loop-row.piece.items in
    underway_left _ _ _ piece piece _ (sym (append-nil piece) ∙ ap (λ rows. piece ++ flat_map (periodic_row c.args.links) rows) (sym c.in-None.ensures.steps.0)) c.loop-row.invariant
