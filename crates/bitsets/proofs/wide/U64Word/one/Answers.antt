use Rattle.std.proofs.Common.{w64}
use Rattle.bitsets.proofs.Bits.{has_one}
use Rattle.bitsets.proofs.wide.U64Word.one.Goals as goal

pub returns : goal.returns
returns c = λ v. has_one w64 c.args.value v c.requires
