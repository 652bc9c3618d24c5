use Rattle.std.proofs.Common.{arith}
use Rattle.std.proofs.lemmas.Grind.{common_steps}
use Rattle.oct_ops.proofs.removal.Removal.new.Goals as goal

pub returns-clause-ok : goal.returns-clause-ok
returns-clause-ok g c = cc

pub returns-clause-fault : goal.returns-clause-fault
returns-clause-fault g c = cc

pub returns-clause-back : goal.returns-clause-back
returns-clause-back g c = cc

pub returns-clause-accepted : goal.returns-clause-accepted
returns-clause-accepted g c = grind (arith, common_steps)
