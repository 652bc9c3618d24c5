use Rattle.std.proofs.Common.{eqb, w16, arith}
use Rattle.std.proofs.lemmas.Simd.{bitmask_splat}
use Rattle.oct_mex.proofs.NimSums.{part, part-length, stands_from, stands_to}
use Rattle.oct_mex.proofs.cell.U16Cell.has_value.Goals as goal

pub returns : goal.returns
returns c =
    let xs = c.args.values.now in
    let from = c.args.from in
    let v = c.args.value in
    let held = c.requires in
    rw (bitmask_splat w16 eqb (part xs from 32 v held) 32 v (part-length xs from 32 v held) (omega arith))
    (stands_from xs from 32 v held, stands_to xs from 32 v held)
