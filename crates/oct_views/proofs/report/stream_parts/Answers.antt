use Rattle.std.proofs.Common.{◌++◌, map, append_assoc, subst}
use Rattle.std.specs.List.{flat_map}
use Rattle.oct_ops.specs.Operations.{listed}
use Rattle.oct_views.specs.Index.{games_part}
use Rattle.oct_views.specs.Report.{games_head, html_end, records_part, shown_section, shown_summary, style_inside}
use Rattle.oct_sheet.proofs.Streamed.{front_put, front_then}
use Rattle.oct_sheet.specs.Sheet.{remarks_of, sheet, sheet_among}
use Rattle.oct_views.specs.declared.index.Links.TheVariants.{Here}
use Rattle.written.specs.Output.{AppendsFront}
use Rattle.oct_views.proofs.report.stream_parts.Goals as goal

pub stream_tables-requires : goal.stream_tables-requires
stream_tables-requires g c = c.new-kept.ensures c.args.part.now.ops

pub returns : goal.returns
returns g c =
    let how = c.args.how in
    let part = c.args.part.now.ops in
    let whole = c.args.whole.now.ops in
    let games = (sheet (listed part)).games in
    let contents = g.W.Write.contents in
    let remarks = remarks_of (listed whole) in
    let sections = subst (λ t. AppendsFront (contents c.stream_records.new.out) (contents c.stream_sections.new.out) (c.stream_records.new.piece.items ++ t) c.stream_sections.new.piece.items)
    (λ i. flat_map (shown_section (c.in_ok-remarks.ensures i) how) games) c.in_ok-stream_sections.ensures in
    let tables = games_part Here remarks (map (shown_summary remarks) games) in
    let above = subst (λ t. AppendsFront (contents c.args.out.now) (contents c.stream_tables.new.out) (c.args.piece.now.items ++ t) c.stream_tables.new.piece.items)
    (λ i. games_head style_inside ++ games_part Here (c.in_ok-remarks.ensures i) (map (shown_summary (c.in_ok-remarks.ensures i)) games)) c.in_ok-stream_tables.ensures.text in
    let records = records_part (sheet_among (listed part) (listed whole)) in
    let shown = flat_map (shown_section remarks how) games in
    let rest = shown ++ html_end in
    let last = contents c.stream_sections.new.out in
    let end = c.append_html_end.new.out.items in
    subst (λ t. AppendsFront (contents c.args.out.now) last (c.args.piece.now.items ++ t) end)
    (append_assoc (games_head style_inside) tables (records ++ rest))
    (front_then (contents c.args.out.now) (contents c.stream_tables.new.out) last c.args.piece.now.items c.stream_tables.new.piece.items end (games_head style_inside ++ tables) (records ++ rest) above
    (front_then (contents c.stream_tables.new.out) (contents c.stream_records.new.out) last c.stream_tables.new.piece.items c.stream_records.new.piece.items end records rest
    c.in_ok-stream_records.ensures
    (front_then (contents c.stream_records.new.out) last last c.stream_records.new.piece.items c.stream_sections.new.piece.items end shown html_end sections
    (front_put last c.stream_sections.new.piece.items end html_end c.in_ok-append_html_end.ensures.ok))))
