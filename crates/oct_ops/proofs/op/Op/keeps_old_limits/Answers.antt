use Rattle.std.proofs.Common.{arith}
use Rattle.std.proofs.lemmas.Grind.{common_steps}
use Rattle.oct_ops.proofs.op.Op.keeps_old_limits.Goals as goal

pub returns-in-Block : goal.returns-in-Block
returns-in-Block g c = grind (arith, common_steps)
