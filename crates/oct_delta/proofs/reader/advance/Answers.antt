use Rattle.std.proofs.Common.{[], Err, refl, ap}
use Rattle.oct_delta.specs.declared.error.DeltaError.TheVariants as errors
use Rattle.oct_delta.specs.ReaderState.{fed}
use Rattle.oct_delta.proofs.Pieces.{told, untold, told_unfailed, no_room_tells, begun_more, begins_still}
use Rattle.oct_delta.proofs.reader.advance.Goals as goal

pub returns-in_err-extend_from_slice-in-Begun-clause-failed : goal.returns-in_err-extend_from_slice-in-Begun-clause-failed
returns-in_err-extend_from_slice-in-Begun-clause-failed g c = told_unfailed _ c.args.state _ [] (ap fed c.in-Begun.is) (no_room_tells _ _ c.from_residual.ensures.1)

pub returns-in_err-extend_from_slice-in-Begun-clause-tells : goal.returns-in_err-extend_from_slice-in-Begun-clause-tells
returns-in_err-extend_from_slice-in-Begun-clause-tells g c = told _ c.args.state _ _ _ (ap fed c.in-Begun.is) refl (no_room_tells _ _ c.from_residual.ensures.1)

pub returns-in_err-extend_from_slice-in-Reading-clause-failed : goal.returns-in_err-extend_from_slice-in-Reading-clause-failed
returns-in_err-extend_from_slice-in-Reading-clause-failed g c = told_unfailed _ c.args.state _ [] (ap fed c.in-Reading.is) (no_room_tells _ _ c.from_residual-in_err-extend_from_slice-in-Reading.ensures.1)

pub returns-in_err-extend_from_slice-in-Reading-clause-tells : goal.returns-in_err-extend_from_slice-in-Reading-clause-tells
returns-in_err-extend_from_slice-in-Reading-clause-tells g c = told _ c.args.state _ _ _ (ap fed c.in-Reading.is) refl (no_room_tells _ _ c.from_residual-in_err-extend_from_slice-in-Reading.ensures.1)

pub read_on-requires : goal.read_on-requires
read_on-requires g c = begins_still c.args.state _ c.in-Reading.is c.requires

pub returns-in_ok-extend_from_slice-in-Begun-clause-failed : goal.returns-in_ok-extend_from_slice-in-Begun-clause-failed
returns-in_ok-extend_from_slice-in-Begun-clause-failed g c = told_unfailed _ c.args.state _ _ (ap fed c.in-Begun.is) c.begin.ensures

pub returns-in_ok-extend_from_slice-in-Begun-clause-tells : goal.returns-in_ok-extend_from_slice-in-Begun-clause-tells
returns-in_ok-extend_from_slice-in-Begun-clause-tells g c = told _ c.args.state _ _ _ (ap fed c.in-Begun.is) c.in_ok-extend_from_slice-in-Begun.ensures.items c.begin.ensures

pub returns-in_ok-extend_from_slice-in-Reading-clause-failed : goal.returns-in_ok-extend_from_slice-in-Reading-clause-failed
returns-in_ok-extend_from_slice-in-Reading-clause-failed g c = told_unfailed _ c.args.state _ _ (ap fed c.in-Reading.is) c.read_on.ensures

pub returns-in_ok-extend_from_slice-in-Reading-clause-tells : goal.returns-in_ok-extend_from_slice-in-Reading-clause-tells
returns-in_ok-extend_from_slice-in-Reading-clause-tells g c =
    let p = c.in-Reading.arrived in
    told _ c.args.state _ _ _ (ap fed c.in-Reading.is) (begun_more p.edition p.count p.ops.items _ _ _ c.in_ok-extend_from_slice-in-Reading.ensures.items) c.read_on.ensures

pub returns-in-Failed-clause-failed : goal.returns-in-Failed-clause-failed
returns-in-Failed-clause-failed g c = (λ _. ap fed c.in-Failed.is, λ _. refl)

pub returns-in-Failed-clause-tells : goal.returns-in-Failed-clause-tells
returns-in-Failed-clause-tells g c = untold (Err errors.Failed) c.args.state c.args.piece.now c.in-Failed.is
