use Rattle.std.proofs.Common.{◌≡◌, length, sym, ap, ◌∙◌, subst}
use Rattle.oct_sync.specs.SessionState.{IsIncoming, Steps, kept_of, kept_of_delta, phase_of, point}
use Rattle.oct_sync.specs.Standing.{IsAt, Known}
use Rattle.oct_sync.proofs.Stepping.{front_more, known_point, open_where, stops_here}
use Rattle.oct_sync.proofs.receiving.step.Goals as goal

pub returns-in-Ok-clause-steps : goal.returns-in-Ok-clause-steps
returns-in-Ok-clause-steps g c p at =
    let role = c.args.role in
    let phase = phase_of c.args.state.due in
    let held = g.P.Peer.held c.args.peer.now in
    let sent = c.args.out.now.items in
    let bytes = c.in-Kept.bytes.items in
    let at' : IsAt role (record { role = role; phase = phase; kept = Known bytes }) held sent p = subst (λ i. IsAt role (record { role = role; phase = phase; kept = kept_of i }) held sent p) c.in-Kept.is at in
    let p_is : p ≡ point phase held sent bytes = known_point role phase (Known bytes) held sent p at' ∙ ap (point phase held sent) at'.rest in
    subst (λ q. Steps role q c.args.piece.now c.feed_frame.result (g.P.Peer.held c.feed_frame.new.peer) c.feed_frame.new.out.items) (sym p_is) (c.feed_frame.ensures.steps bytes c.args.piece.now (sym c.in-Ok.ensures.items))

pub returns-in-Err-clause-steps : goal.returns-in-Err-clause-steps
returns-in-Err-clause-steps g c p at =
    stops_here c.args.role p c.args.piece.now (g.P.Peer.held c.args.peer.now) c.args.out.now.items (sym (ap (λ s. s.held) at.session)) (sym (ap (λ s. s.sent) at.session))

pub returns-in-Ok-feed_delta-clause-steps : goal.returns-in-Ok-feed_delta-clause-steps
returns-in-Ok-feed_delta-clause-steps g c p at =
    let role = c.args.role in
    let phase = phase_of c.args.state.due in
    let held = g.P.Peer.held c.args.peer.now in
    let sent = c.args.out.now.items in
    let at' : IsAt role (record { role = role; phase = phase; kept = kept_of_delta c.in-Delta.delta }) held sent p = subst (λ i. IsAt role (record { role = role; phase = phase; kept = kept_of i }) held sent p) c.in-Delta.is at in
    let p_is : p ≡ point phase held sent p.rest = known_point role phase (kept_of_delta c.in-Delta.delta) held sent p at' in
    subst (λ q. Steps role q c.args.piece.now c.end_delta.result (g.P.Peer.held c.end_delta.new.peer) sent) (sym p_is) (c.end_delta.ensures.steps sent p.rest c.args.piece.now (c.in-Ok-feed_delta.ensures.rest p.rest at'.rest))

pub returns-in-Err-feed_delta-clause-steps : goal.returns-in-Err-feed_delta-clause-steps
returns-in-Err-feed_delta-clause-steps g c p at =
    stops_here c.args.role p c.args.piece.now (g.P.Peer.held c.args.peer.now) c.args.out.now.items (sym (ap (λ s. s.held) at.session)) (sym (ap (λ s. s.sent) at.session))

pub feed_frame-requires-clause-open : goal.feed_frame-requires-clause-open
feed_frame-requires-clause-open g c = open_where (phase_of c.args.state.due) c.args.state.incoming (length c.args.piece.now) c.requires.some c.requires.fits

pub feed_delta-requires-clause-counted : goal.feed_delta-requires-clause-counted
feed_delta-requires-clause-counted g c = (subst (IsIncoming (phase_of c.args.state.due)) c.in-Delta.is c.requires.valid).0.counted

pub end_delta-requires-clause-front : goal.end_delta-requires-clause-front
end_delta-requires-clause-front g c =
    let held = subst (IsIncoming (phase_of c.args.state.due)) c.in-Delta.is c.requires.valid in
    front_more (phase_of c.args.state.due) c.in-Delta.delta.head.items c.in-Ok-feed_delta.delta.head.items c.in-Delta.delta.missing c.in-Ok-feed_delta.delta.missing (length c.args.piece.now) c.in-Delta.delta.reader c.in-Ok-feed_delta.delta.reader
    held.0 c.in-Ok-feed_delta.ensures.head c.in-Ok-feed_delta.ensures.missing c.in-Ok-feed_delta.ensures.counted

pub end_delta-requires-clause-open : goal.end_delta-requires-clause-open
end_delta-requires-clause-open g c = (subst (IsIncoming (phase_of c.args.state.due)) c.in-Delta.is c.requires.valid).2
