use Rattle.std.proofs.Common.{arith}
use Rattle.bitsets.proofs.Turned.{has_turned, narrow_are_low, narrow_lows}
use Rattle.bitsets.proofs.narrow.U32Word.turned.Goals as goal

pub returns : goal.returns
returns c = λ v small. has_turned 32 5 narrow_lows narrow_are_low (omega arith) c.args.self c.args.bit v c.requires small
