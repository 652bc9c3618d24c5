use Rattle.std.proofs.Common.{arith}
use Rattle.std.proofs.lemmas.Grind.{common_steps}
use Rattle.oct_delta.specs.Clocks.{entry_at}
use Rattle.oct_delta.proofs.input.Input.entry.Goals as goal

pub returns-then-author-eq0-clause-value : goal.returns-then-author-eq0-clause-value
unfolding entry_at
returns-then-author-eq0-clause-value c = grind (arith, common_steps)

pub returns-clause-value : goal.returns-clause-value
unfolding entry_at
returns-clause-value c = grind (arith, common_steps)

pub returns-clause-valid : goal.returns-clause-valid
returns-clause-valid c = grind (arith, common_steps)
