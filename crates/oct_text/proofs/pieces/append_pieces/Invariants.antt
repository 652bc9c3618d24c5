use Rattle.std.proofs.Common.{◌≡◌, ◌++◌, take}
use Rattle.std.specs.List.{flat_map}
use Rattle.oct_text.specs.Pieces.{piece_text}
use Rattle.oct_text.proofs.pieces.append_pieces.Given as goal

abbrev pub invariant-loop-piece : goal.invariant-loop-piece
invariant-loop-piece g l = l.out.items ≡ l.fn.out.items ++ flat_map piece_text (take l.piece-index l.pieces)
