use Rattle.oct_replica.proofs.peer.ReplicaPeer.clock.Goals as goal

pub returns-clause-ok : goal.returns-clause-ok
returns-clause-ok g c = c.clock.ensures.ok
