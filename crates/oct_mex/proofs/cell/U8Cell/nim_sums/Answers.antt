use Rattle.std.proofs.Common.{arith}
use Rattle.oct_mex.proofs.NimSums.{are_nim_sums}
use Rattle.oct_mex.proofs.cell.U8Cell.nim_sums.Goals as goal

pub returns : goal.returns
returns c = are_nim_sums c.args.values.now c.args.rest c.args.from 32 0 (omega arith) c.requires.some c.requires.smaller c.requires.held
