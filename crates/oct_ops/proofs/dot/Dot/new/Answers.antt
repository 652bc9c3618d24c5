use Rattle.std.proofs.Common.{arith}
use Rattle.std.proofs.lemmas.Grind.{common_steps}
use Rattle.oct_ops.proofs.dot.Dot.new.Goals as goal

pub returns-clause-ok : goal.returns-clause-ok
returns-clause-ok c = cc

pub returns-clause-accepted : goal.returns-clause-accepted
returns-clause-accepted c = grind (arith, common_steps)

pub returns-clause-refused : goal.returns-clause-refused
returns-clause-refused c = cc
