use Rattle.std.proofs.Common.{arith}
use Rattle.bitsets.proofs.Turned.{has_turned, wide_are_low, wide_lows}
use Rattle.bitsets.proofs.wide.U64Word.turned.Goals as goal

pub returns : goal.returns
returns c = λ v small. has_turned 64 6 wide_lows wide_are_low (omega arith) c.args.self c.args.bit v c.requires small
