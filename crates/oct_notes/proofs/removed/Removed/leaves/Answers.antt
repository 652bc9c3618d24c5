use Rattle.std.proofs.Common.{arith}
use Rattle.std.proofs.lemmas.Grind.{common_steps}
use Rattle.oct_notes.proofs.removed.Removed.leaves.Goals as goal

pub returns-then-matches : goal.returns-then-matches
returns-then-matches g c = grind (arith, common_steps)
