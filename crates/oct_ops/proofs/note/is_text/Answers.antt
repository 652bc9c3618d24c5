use Rattle.std.proofs.Common.{arith}
use Rattle.std.proofs.lemmas.Grind.{common_steps}
use Rattle.oct_ops.proofs.note.is_text.Goals as goal

pub returns-else-text-le-MAX_TEXT : goal.returns-else-text-le-MAX_TEXT
returns-else-text-le-MAX_TEXT c = grind (arith, common_steps)
