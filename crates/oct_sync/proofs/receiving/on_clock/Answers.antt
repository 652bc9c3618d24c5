use Rattle.std.proofs.Common.{sym, ap, ◌∙◌}
use Rattle.oct_sync.specs.Session.{AwaitsDeltas, on_clock}
use Rattle.oct_sync.proofs.receiving.on_clock.Goals as goal

pub returns-in-Client-clause-ok : goal.returns-in-Client-clause-ok
returns-in-Client-clause-ok g c phase =
    λ i. on_clock (c.in-Client.is i) (record { phase = phase; held = g.P.Peer.held c.args.peer.now; sent = c.args.out.now.items }) (c.in-Ok.ensures.read i)

pub returns-in-Giver-clause-ok : goal.returns-in-Giver-clause-ok
returns-in-Giver-clause-ok g c phase =
    λ i. on_clock (c.in-Giver.is i) (record { phase = phase; held = g.P.Peer.held c.args.peer.now; sent = c.args.out.now.items }) (c.in-Ok.ensures.read i)

pub returns-in_ok-send_answer-in-Server-clause-ok : goal.returns-in_ok-send_answer-in-Server-clause-ok
returns-in_ok-send_answer-in-Server-clause-ok g c phase =
    let held = g.P.Peer.held c.args.peer.now in
    (λ i. on_clock (c.in-Server.is i) (record { phase = phase; held = held; sent = c.args.out.now.items }) (c.in-Ok.ensures.read i))
    ∙ ap (λ sent. record { phase = AwaitsDeltas c.in-Ok.clock; held = held; sent = sent }) (sym c.in_ok-send_answer-in-Server.ensures.ok)

pub returns-in-ClientOfAll-clause-ok : goal.returns-in-ClientOfAll-clause-ok
returns-in-ClientOfAll-clause-ok g c phase =
    let held = g.P.Peer.held c.args.peer.now in
    (λ i. on_clock (c.in-ClientOfAll.is i) (record { phase = phase; held = held; sent = c.args.out.now.items }) (c.in-Ok.ensures.read i))
    ∙ ap (λ t. record { phase = AwaitsDeltas t; held = held; sent = c.args.out.now.items }) (sym c.new.ensures)
