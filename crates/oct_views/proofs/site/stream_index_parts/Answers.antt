use Rattle.std.proofs.Common.{[], ◌++◌, subst}
use Rattle.oct_ops.specs.Operations.{listed}
use Rattle.oct_sheet.specs.Sheet.{remarks_of, sheet}
use Rattle.oct_views.proofs.Streaming.{appended, none_put, streamed}
use Rattle.oct_views.specs.Index.{games_part, proved_table}
use Rattle.oct_views.specs.Report.{games_head, html_end, records_part, style_link}
use Rattle.oct_views.specs.declared.index.Links.TheVariants.{Files}
use Rattle.written.specs.Output.{AppendsFront}
use Rattle.oct_views.proofs.site.stream_index_parts.Goals as goal

pub returns : goal.returns
returns g c =
    let contents = g.W.Write.contents in
    let old = contents c.args.out.now in
    let piece = c.args.piece.now.items in
    let rows = c.args.rows.now in
    let ops = listed c.args.said.now.ops in
    let head = c.append_head.new.out.items in
    let games = contents c.stream_games.new.out in
    let found = contents c.stream_proved.new.out in
    let last = contents c.stream_records.new.out in
    let games_put : AppendsFront old games (head ++ games_part Files (remarks_of ops) rows) c.stream_games.new.piece.items =
    subst (λ notes. AppendsFront old games (head ++ games_part Files notes rows) c.stream_games.new.piece.items) c.in_ok-remarks.ensures c.in_ok-stream_games.ensures in
    let front = appended old old piece [] piece head (games_head style_link) (none_put old piece) c.in_ok-append_head.ensures.ok in
    let with_games = streamed old old games piece _ head c.stream_games.new.piece.items (games_part Files (remarks_of ops) rows) front games_put in
    let with_proved = streamed old games found piece _ c.stream_games.new.piece.items c.stream_proved.new.piece.items (proved_table c.args.proved.now) with_games c.in_ok-stream_proved.ensures in
    let with_records = streamed old found last piece _ c.stream_proved.new.piece.items c.stream_records.new.piece.items (records_part (sheet ops)) with_proved c.in_ok-stream_records.ensures in
    (appended old last piece _ c.stream_records.new.piece.items c.append_html_end.new.out.items html_end with_records c.in_ok-append_html_end.ensures.ok).front
