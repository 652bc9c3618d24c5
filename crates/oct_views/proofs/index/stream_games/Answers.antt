use Rattle.std.proofs.Common.{[]}
use Rattle.std.specs.Prelude.{codes}
use Rattle.std.proofs.lemmas.Result.{on_ok_weaker}
use Rattle.oct_views.proofs.Streaming.{appended, none_put, streamed}
use Rattle.oct_views.specs.Index.{games_table, periods_table, refuted_table, totals}
use Rattle.oct_views.specs.declared.standing.Standing.TheVariants as standing
use Rattle.oct_views.proofs.index.stream_games.Goals as goal

pub returns : goal.returns
returns g c =
    let contents = g.W.Write.contents in
    let old = contents c.args.out.now in
    let piece = c.args.piece.now.items in
    let way = c.args.links in
    let rows = c.args.rows.now in
    let told = appended old old piece [] piece c.append_totals.new.out.items (totals rows) (none_put old piece) c.in_ok-append_totals.ensures.ok in
    let first = streamed old old (contents c.stream_refuted.new.out) piece _ c.append_totals.new.out.items c.stream_refuted.new.piece.items (refuted_table way standing.Stands rows) told
    c.in_ok-stream_refuted.ensures in
    let second = streamed old (contents c.stream_refuted.new.out) (contents c.stream_refuted-2.new.out) piece _ c.stream_refuted.new.piece.items c.stream_refuted-2.new.piece.items
    (refuted_table way standing.Withdrawn rows) first c.in_ok-stream_refuted-2.ensures in
    let games = streamed old (contents c.stream_refuted-2.new.out) (contents c.stream_games_table.new.out) piece _ c.stream_refuted-2.new.piece.items c.stream_games_table.new.piece.items
    (games_table way c.args.remarks.now rows) second c.in_ok-stream_games_table.ensures in
    let between = appended old (contents c.stream_games_table.new.out) piece _ c.stream_games_table.new.piece.items c.append_pieces.new.out.items (codes "</div>\n<div id=\"periods\">\n") games
    c.in_ok-append_pieces.ensures.ok in
    on_ok_weaker c.stream_periods.result
    (λ last. (streamed old (contents c.stream_games_table.new.out) (contents c.stream_periods.new.out) piece _ c.append_pieces.new.out.items c.stream_periods.new.piece.items
    (periods_table way rows) between last).front)
    c.stream_periods.ensures
