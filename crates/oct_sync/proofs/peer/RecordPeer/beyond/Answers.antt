use Rattle.oct_sync.proofs.peer.RecordPeer.beyond.Goals as goal

pub returns : goal.returns
returns g c = c.beyond.ensures
