use Rattle.std.proofs.Common.{arith}
use Rattle.std.proofs.lemmas.Grind.{common_steps}
use Rattle.oct_delta.proofs.encoding.op_size.Goals as goal

pub returns-clause-size : goal.returns-clause-size
returns-clause-size g c = grind (arith, common_steps)

pub returns-clause-small : goal.returns-clause-small
returns-clause-small g c = grind (arith, common_steps)
