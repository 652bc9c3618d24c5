use Rattle.std.proofs.Common.{◌≡◌, Some, take}
use Rattle.oct_delta.specs.ReaderState.{together}
use Rattle.oct_delta.proofs.reader.decode_pieces.Given as goal

-- the pieces so far are fed
abbrev pub invariant-loop-piece : goal.invariant-loop-piece
invariant-loop-piece g l = l.reader ≡ Some (together (take l.piece-index l.pieces))
