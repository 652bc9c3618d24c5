use Rattle.std.proofs.Common.{arith}
use Rattle.std.proofs.lemmas.Grind.{common_steps}
use Rattle.oct_sync.proofs.session.Session.giver.Goals as goal

pub returns-clause-ok : goal.returns-clause-ok
returns-clause-ok g c = cc

pub returns-clause-sent : goal.returns-clause-sent
returns-clause-sent g c = grind (arith, common_steps)

pub returns-clause-err : goal.returns-clause-err
returns-clause-err g c = cc
