use Rattle.oct_replica.proofs.peer.ReplicaPeer.beyond.Goals as goal

pub returns : goal.returns
returns g c = c.beyond.ensures
