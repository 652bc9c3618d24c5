use Rattle.std.proofs.Common.{◌≡◌, ◌<◌, ◌≤◌, ◌^◌, [], ◌++◌, length, Ok, Err, refl, sym, ap, ◌∙◌, subst, inr, arith}
use Rattle.oct_ops.specs.Operations.{IsRising, set_of}
use Rattle.oct_sync.specs.Session.{taken_in}
use Rattle.oct_sync.specs.SessionState.{kept_of_delta, phase_of, point}
use Rattle.oct_sync.specs.Standing.{EndsDelta}
use Rattle.oct_sync.proofs.Payloads.{end_ok, end_err, ends_delta, few_of}
use Rattle.oct_sync.proofs.Stepping.{has_payload, delta_unfinished, delta_faultless, fed_front, is_at, starts_at}
use Rattle.oct_sync.proofs.receiving.end_delta.Goals as goal

ok_err : {T E : Type 0} {x : T} {e : E} → Ok x ≡ Err e → ⊥
ok_err h = cc

pub take_in-requires-clause-rises : goal.take_in-requires-clause-rises
take_in-requires-clause-rises g c = subst IsRising (sym c.into_vec-ops.ensures.value) c.into_vec-ops.ensures.valid

pub take_in-requires-clause-few : goal.take_in-requires-clause-few
take_in-requires-clause-few g c = subst (λ xs. length xs < 2 ^ 32) (sym c.into_vec-ops.ensures.value) (few_of c.args.delta.reader c.in-Ok.list c.in-Ok.ensures.ok (λ gone. ok_err (c.in-Ok.ensures.failed.1 gone)))

pub returns-then-delta-gt0-clause-valid : goal.returns-then-delta-gt0-clause-valid
returns-then-delta-gt0-clause-valid g c = let some : 1 ≤ c.args.delta.missing = omega (arith, c.if-delta-gt0.true) in (c.requires.front, some, c.requires.open)

pub returns-then-delta-gt0-clause-steps : goal.returns-then-delta-gt0-clause-steps
returns-then-delta-gt0-clause-steps g c sent r y rest =
    let d = c.args.delta in
    let has = has_payload (phase_of c.args.due) d.head.items (r ++ y) d.missing d.reader c.requires.front rest in
    let some : 1 ≤ d.missing = omega (arith, c.if-delta-gt0.true) in
    is_at c.args.role (phase_of c.args.due) (kept_of_delta d) (g.P.Peer.held c.args.peer.now) sent (r ++ y) _
    (fed_front c.args.role (phase_of c.args.due) (g.P.Peer.held c.args.peer.now) sent r y (r ++ y) c.requires.open refl
    (delta_unfinished (phase_of c.args.due) d.head.items (r ++ y) d.missing d.reader c.requires.front has some)
    (delta_faultless (phase_of c.args.due) d.head.items (r ++ y) d.missing d.reader c.requires.front has))
    rest

pub returns-in-Ok-take_in-clause-steps : goal.returns-in-Ok-take_in-clause-steps
returns-in-Ok-take_in-clause-steps g c sent r y rest =
    let d = c.args.delta in
    let held = g.P.Peer.held c.args.peer.now in
    let none : d.missing ≡ 0 = omega (arith, c.if-delta-gt0.false) in
    starts_at c.args.role c.new.result c.args.due (g.P.Peer.held c.take_in.new.peer) sent _ c.new.ensures.due c.new.ensures.kept
    (end_ok c.texts_are_read.ensures c.args.role (phase_of c.args.due) held sent r y d.head.items d.missing d.reader c.in-Ok.list c.requires.open c.requires.front none rest c.in-Ok.ensures.ok (λ gone. ok_err (c.in-Ok.ensures.failed.1 gone))
    ∙ ap (λ h. record { session = record { phase = phase_of c.args.due; held = h; sent = sent }; rest = [] })
    (sym (c.in-Ok-take_in.ensures.ok ∙ ap (λ xs. taken_in c.args.role held (set_of xs)) c.into_vec-ops.ensures.value)))

pub returns-in-Err-take_in-clause-steps : goal.returns-in-Err-take_in-clause-steps
returns-in-Err-take_in-clause-steps g c sent r y rest =
    let d = c.args.delta in
    let held = g.P.Peer.held c.args.peer.now in
    let none : d.missing ≡ 0 = omega (arith, c.if-delta-gt0.false) in
    record {
      held_is = record {
        ops = c.into_vec-ops.result.items;
        count = c.in-Err-take_in.ensures.err.0;
        is = c.in-Err-take_in.ensures.err.1;
        whole = inr (subst (λ xs. EndsDelta c.args.role (point (phase_of c.args.due) held sent r) y xs) (sym c.into_vec-ops.ensures.value)
            (ends_delta c.texts_are_read.ensures c.args.role (phase_of c.args.due) held sent r y d.head.items d.missing d.reader c.in-Ok.list c.requires.open c.requires.front none rest c.in-Ok.ensures.ok (λ gone. ok_err (c.in-Ok.ensures.failed.1 gone))));
      };
      sent_is = refl;
    }

pub returns-in-Err-clause-steps : goal.returns-in-Err-clause-steps
returns-in-Err-clause-steps g c sent r y rest =
    let d = c.args.delta in
    let none : d.missing ≡ 0 = omega (arith, c.if-delta-gt0.false) in
    end_err c.texts_are_read.ensures c.args.role (phase_of c.args.due) (g.P.Peer.held c.args.peer.now) sent r y d.head.items d.missing d.reader c.in-Err.field-0 c.requires.open c.requires.front none rest
    (λ h. c.in-Err.ensures.version (ap Err h)) (λ h. c.in-Err.ensures.refused (ap Err h)) (λ h. c.in-Err.ensures.failed.0 (ap Err h)) (λ h. c.in-Err.ensures.memory (ap Err h))

pub returns-in-Ok-take_in-clause-author : goal.returns-in-Ok-take_in-clause-author
returns-in-Ok-take_in-clause-author g c = c.in-Ok-take_in.ensures.author

pub returns-in-Ok-take_in-clause-valid : goal.returns-in-Ok-take_in-clause-valid
returns-in-Ok-take_in-clause-valid g c = c.new.ensures.valid
