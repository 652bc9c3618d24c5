use Rattle.oct_sync.proofs.session.Session.server.Goals as goal

pub returns : goal.returns
returns g c = cc
