use Rattle.oct_views.proofs.Streaming.{each_put}
use Rattle.oct_views.specs.Index.{game_row}
use Rattle.oct_views.proofs.index.stream_game_rows.Goals as goal

pub loop-row-preserved : goal.loop-row-preserved
loop-row-preserved g c =
    let contents = g.W.Write.contents in
    each_put (game_row c.args.links c.args.remarks.now c.args.columns.now) c.args.rows.now c.loop-row.row-index _ c.row-item.result (contents c.args.out.now) (contents c.loop-row.out)
    (contents c.spill.new.out) c.args.piece.now.items c.loop-row.piece.items c.append_game_row.new.out.items c.spill.new.piece.items
    c.loop-row-test.true c.row-item.is c.loop-row.invariant c.in_ok-append_game_row.ensures.ok c.in_ok-spill.ensures.ok
