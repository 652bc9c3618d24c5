use Rattle.std.proofs.Common.{◌≡◌, drop, Err, refl, sym, ap, ◌∙◌, subst, ⊎_elim}
use Rattle.oct_delta.specs.Clocks.{read_clock}
use Rattle.oct_sync.specs.Frames.{tag_field}
use Rattle.oct_sync.specs.Session.{HasFailed, Point, Session, failed, on_clock, on_due}
use Rattle.oct_sync.specs.SessionState.{Fails, phase_of, point}
use Rattle.oct_sync.specs.declared.error.SyncError.TheVariants as fault
use Rattle.oct_sync.proofs.Stepping.{fed_whole, starts_at, stops_here, tail_is}
use Rattle.oct_sync.proofs.receiving.end_frame.Goals as goal

pub returns-in-Ok-clause-steps : goal.returns-in-Ok-clause-steps
returns-in-Ok-clause-steps g c r y e =
    let frame = c.args.frame.now in
    let phase = phase_of c.args.due in
    let held = g.P.Peer.held c.args.peer.now in
    let now : Session = record { phase = phase; held = held; sent = c.args.out.now.items } in
    starts_at c.args.role c.new.result c.in-Ok.next held c.on_clock.new.out.items _ c.new.ensures.due c.new.ensures.kept
    (fed_whole c.args.role phase held c.args.out.now.items r y frame c.requires.open e _ c.requires.whole
    (ap (λ t. on_due c.args.role now (record { tag = t; payload = drop 5 frame })) c.if-frame-eq-CLOCK.true ∙ ap (λ b. on_clock c.args.role now (read_clock b)) (sym (tail_is frame)) ∙ c.in-Ok.ensures.ok phase))

pub returns-then-frame-eq-CLOCK-clause-steps : goal.returns-then-frame-eq-CLOCK-clause-steps
returns-then-frame-eq-CLOCK-clause-steps g c r y e =
    let frame = c.args.frame.now in
    let phase = phase_of c.args.due in
    let held = g.P.Peer.held c.args.peer.now in
    let now : Session = record { phase = phase; held = held; sent = c.args.out.now.items } in
    let at : Point = point phase held c.args.out.now.items r in
    ⊎_elim
    (λ is_clock. subst (λ f. Fails c.args.role at y f held c.on_clock.new.out.items) (sym is_clock)
    (ap (λ (p : Point). p.session)
    (fed_whole c.args.role phase held c.args.out.now.items r y frame c.requires.open e (failed now fault.Clock) c.requires.whole
    (ap (λ t. on_due c.args.role now (record { tag = t; payload = drop 5 frame })) c.if-frame-eq-CLOCK.true ∙ ap (λ b. on_clock c.args.role now (read_clock b)) (sym (tail_is frame)) ∙ ap (on_clock c.args.role now) (c.in-Err.ensures.clock (ap Err is_clock))))
    ∙ ap (λ s. record { phase = HasFailed fault.Clock; held = held; sent = s }) (sym c.in-Err.ensures.err)))
    (λ is_memory. subst (λ f. Fails c.args.role at y f held c.on_clock.new.out.items) (sym is_memory) (stops_here c.args.role at y held c.on_clock.new.out.items refl c.in-Err.ensures.err))
    c.in-Err.ensures.kind

pub returns-in-Ok-on_end-clause-steps : goal.returns-in-Ok-on_end-clause-steps
returns-in-Ok-on_end-clause-steps g c r y e =
    let frame = c.args.frame.now in
    let phase = phase_of c.args.due in
    let held = g.P.Peer.held c.args.peer.now in
    let now : Session = record { phase = phase; held = held; sent = c.args.out.now.items } in
    let tagged : tag_field frame ≡ 3 = ⊎_elim (λ is_clock. absurd (c.if-frame-eq-CLOCK.false is_clock)) (λ is_end. is_end) c.requires.tag in
    starts_at c.args.role c.new-in-Ok-on_end.result c.in-Ok-on_end.next held c.on_end.new.out.items _ c.new-in-Ok-on_end.ensures.due c.new-in-Ok-on_end.ensures.kept
    (fed_whole c.args.role phase held c.args.out.now.items r y frame c.requires.open e _ c.requires.whole
    (ap (λ t. on_due c.args.role now (record { tag = t; payload = drop 5 frame })) tagged ∙ c.in-Ok-on_end.ensures.ok))

pub returns-clause-steps : goal.returns-clause-steps
returns-clause-steps g c r y e = stops_here c.args.role (point (phase_of c.args.due) (g.P.Peer.held c.args.peer.now) c.args.out.now.items r) y (g.P.Peer.held c.args.peer.now) c.on_end.new.out.items refl c.in-Err-on_end.ensures.err
