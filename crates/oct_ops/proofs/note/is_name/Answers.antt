use Rattle.std.proofs.Common.{arith}
use Rattle.std.proofs.lemmas.Grind.{common_steps}
use Rattle.oct_ops.proofs.note.is_name.Goals as goal

pub returns-then-name-le-MAX_NAME : goal.returns-then-name-le-MAX_NAME
returns-then-name-le-MAX_NAME c = grind (arith, common_steps)
