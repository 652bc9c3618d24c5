use Rattle.std.proofs.Common.{w32}
use Rattle.bitsets.proofs.Bits.{has_one}
use Rattle.bitsets.proofs.narrow.U32Word.one.Goals as goal

pub returns : goal.returns
returns c = λ v. has_one w32 c.args.value v c.requires
