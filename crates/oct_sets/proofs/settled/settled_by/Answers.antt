use Rattle.std.proofs.Common.{◌^◌, ◌<◌, arith}
use Rattle.oct_sets.proofs.Near.{settles}
use Rattle.oct_sets.proofs.settled.settled_by.Goals as goal

pub returns-then-not-is_rare-clause-settles : goal.returns-then-not-is_rare-clause-settles
returns-then-not-is_rare-clause-settles g c = λ code heaps reach near.
    let e = c.least-value.ensures in
    let low : c.least-value.result < 2 ^ g.W.Word.digits = omega (arith, c.if-value-width.true, c.width.ensures) in
    settles (2 ^ g.W.Word.digits) code c.args.heap heaps reach (g.W.Word.number c.args.set) c.least-value.result low e.below (e.none low) near
