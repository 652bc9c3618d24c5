use Rattle.oct_ops.proofs.Growing.{grown_each}
use Rattle.oct_text.specs.Pieces.{piece_text}
use Rattle.oct_text.proofs.pieces.append_pieces.Goals as goal

pub loop-piece-preserved : goal.loop-piece-preserved
loop-piece-preserved g c =
    grown_each piece_text c.args.pieces.now c.loop-piece.piece-index _ c.piece-item.result c.args.out.now.items c.loop-piece.out.items c.append_piece.new.out.items
    c.loop-piece-test.true c.piece-item.is c.loop-piece.invariant c.in_ok-append_piece.ensures.ok
