use Rattle.std.proofs.Common.{arith}
use Rattle.std.proofs.lemmas.Grind.{common_steps}
use Rattle.oct_code.proofs.code.Code.allows.Goals as goal

pub returns : goal.returns
returns c = grind (arith, common_steps)
