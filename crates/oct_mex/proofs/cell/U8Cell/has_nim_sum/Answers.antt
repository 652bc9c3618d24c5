use Rattle.std.proofs.Common.{eqb, w8, arith}
use Rattle.std.proofs.lemmas.Simd.{bitmask_splat}
use Rattle.oct_mex.proofs.NimSums.{met_from, met_to, sums, sums-length}
use Rattle.oct_mex.proofs.cell.U8Cell.has_nim_sum.Goals as goal

pub returns : goal.returns
returns c =
    let xs = c.args.values.now in
    let rest = c.args.rest in
    let from = c.args.from in
    let v = c.args.value in
    let some = c.requires.some in
    let smaller = c.requires.smaller in
    let held = c.requires.held in
    rw (bitmask_splat w8 eqb (sums xs rest from 32 v (omega arith) some smaller held) 32 v (sums-length xs rest from 32 v (omega arith) some smaller held) (omega arith))
    (met_from xs rest from 32 v (omega arith) some smaller held, met_to xs rest from 32 v (omega arith) some smaller held)
