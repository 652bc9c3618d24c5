use Rattle.std.proofs.Common.{take, drop, suc}
use Rattle.oct_delta.specs.declared.error.DeltaError.TheVariants as faults
use Rattle.oct_delta.specs.ReaderState.{together}
use Rattle.oct_delta.proofs.Cut.{cut_at, of_piece, version_stays, refusal_stays}
use Rattle.oct_delta.proofs.reader.decode_pieces.Goals as goal

pub returns-in-Err-clause-version : goal.returns-in-Err-clause-version
returns-in-Err-clause-version g c e =
    let pieces = c.args.pieces.now in
    let i = c.loop-piece.piece-index in
    version_stays _ (together (take i pieces)) _ (together (drop (suc i) pieces)) (together pieces) c.loop-piece.invariant (cut_at pieces i _ c.loop-piece-test.true) (c.in-Err.ensures.version (of_piece c.in-Err.refused faults.Version e))

pub returns-in-Err-clause-refused : goal.returns-in-Err-clause-refused
returns-in-Err-clause-refused g c e =
    let pieces = c.args.pieces.now in
    let i = c.loop-piece.piece-index in
    refusal_stays _ (together (take i pieces)) _ (together (drop (suc i) pieces)) (together pieces) c.loop-piece.invariant (cut_at pieces i _ c.loop-piece-test.true) (c.in-Err.ensures.refused (of_piece c.in-Err.refused faults.Refused e))
