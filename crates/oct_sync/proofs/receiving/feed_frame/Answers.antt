use Rattle.std.proofs.Common.{◌≡◌, ◌⊎◌, ◌<◌, ◌≤◌, ◌+◌, ◌-◌, None, length, refl, sym, ap, subst, ◌∙◌, arith}
use Rattle.std.proofs.lemmas.List.{get_or_read}
use Rattle.oct_sync.specs.Frames.{clock_tag, delta_tag, end_tag, length_field, tag_field}
use Rattle.oct_sync.specs.Session.{rest_fault}
use Rattle.oct_sync.specs.SessionState.{IsDeltaFront, IsWholeFrame, phase_of}
use Rattle.oct_sync.specs.Standing.{Known}
use Rattle.oct_sync.proofs.Settling.{clock_begins, clock_or_end, delta_begins, frame_ends}
use Rattle.oct_sync.proofs.Stepping.{fed_front, is_at, not_begun, not_done, shown_fails}
use Rattle.oct_sync.proofs.receiving.feed_frame.Goals as goal

pub returns-in-Some-clause-steps : goal.returns-in-Some-clause-steps
returns-in-Some-clause-steps g c r y e =
    shown_fails c.args.role (phase_of c.args.due) (g.P.Peer.held c.args.peer.now) c.args.out.now.items r y c.args.bytes.items c.in-Some.fault c.requires.open e
    (ap (rest_fault (phase_of c.args.due)) (sym c.deref.ensures.value) ∙ sym c.in-Some.ensures.value)

pub returns-then-len-lt5-clause-valid : goal.returns-then-len-lt5-clause-valid
returns-then-len-lt5-clause-valid g c =
    let short : length c.args.bytes.items < 5 = omega (arith, c.if-len-lt5.true, c.len.ensures, c.args.bytes.ok) in
    record {
      unfinished = not_begun c.args.bytes.items (λ long. absurd (omega (arith, long, short)));
      faultless = ap (rest_fault (phase_of c.args.due)) (sym c.deref.ensures.value) ∙ sym c.first_fault.ensures.value ∙ c.in_default.is;
      tag = λ long. absurd (omega (arith, long, short));
      ended = not_done (phase_of c.args.due) c.requires.open;
    }

pub returns-then-len-lt5-clause-steps : goal.returns-then-len-lt5-clause-steps
returns-then-len-lt5-clause-steps g c r y e =
    let short : length c.args.bytes.items < 5 = omega (arith, c.if-len-lt5.true, c.len.ensures, c.args.bytes.ok) in
    is_at c.args.role (phase_of c.args.due) (Known c.args.bytes.items) (g.P.Peer.held c.args.peer.now) c.args.out.now.items c.args.bytes.items _
    (fed_front c.args.role (phase_of c.args.due) (g.P.Peer.held c.args.peer.now) c.args.out.now.items r y c.args.bytes.items c.requires.open e
    (not_begun c.args.bytes.items (λ long. absurd (omega (arith, long, short))))
    (ap (rest_fault (phase_of c.args.due)) (sym c.deref.ensures.value) ∙ sym c.first_fault.ensures.value ∙ c.in_default.is))
    refl

pub returns-clause-steps : goal.returns-clause-steps
returns-clause-steps g c r y e = c.end_frame.ensures.steps r y (e ∙ sym c.deref-3.ensures.value)

pub end_delta-requires-clause-front : goal.end_delta-requires-clause-front
end_delta-requires-clause-front g c =
    let bytes = c.args.bytes.items in
    let long : 5 ≤ length bytes = omega (arith, c.if-len-lt5.false, c.len.ensures, c.args.bytes.ok) in
    let none : rest_fault (phase_of c.args.due) bytes ≡ None = ap (rest_fault (phase_of c.args.due)) (sym c.deref.ensures.value) ∙ sym c.first_fault.ensures.value ∙ c.in_default.is in
    let field : c.length_field.result ≡ length_field bytes = c.length_field.ensures.value ∙ ap length_field c.deref-2.ensures.value in
    let size : c.len-2.result ≡ length bytes = omega (arith, c.len-2.ensures, c.args.bytes.ok) in
    let tag : tag_field bytes ≡ delta_tag = sym (get_or_read bytes 4 c.index.result.now (omega (arith, long)) c.index.ensures 0) ∙ c.if-index-eq-DELTA.true in
    subst (IsDeltaFront (phase_of c.args.due) bytes (4 + c.length_field.result - c.len-2.result)) (sym c.new-reader.ensures) (delta_begins (phase_of c.args.due) bytes _ long c.requires.short none tag (omega (arith, field, size)))

pub end_frame-requires-clause-whole : goal.end_frame-requires-clause-whole
end_frame-requires-clause-whole g c =
    let bytes = c.args.bytes.items in
    let long : 5 ≤ length bytes = omega (arith, c.if-len-lt5.false, c.len.ensures, c.args.bytes.ok) in
    let none : rest_fault (phase_of c.args.due) bytes ≡ None = ap (rest_fault (phase_of c.args.due)) (sym c.deref.ensures.value) ∙ sym c.first_fault.ensures.value ∙ c.in_default.is in
    let field : c.length_field.result ≡ length_field bytes = c.length_field.ensures.value ∙ ap length_field c.deref-2.ensures.value in
    let size : c.len-2.result ≡ length bytes = omega (arith, c.len-2.ensures, c.args.bytes.ok) in
    subst (IsWholeFrame (phase_of c.args.due)) (sym c.deref-3.ensures.value) (frame_ends (phase_of c.args.due) bytes long c.requires.short none (omega (arith, field, size, c.if-missing-gt0.false)))

pub end_frame-requires-clause-tag : goal.end_frame-requires-clause-tag
end_frame-requires-clause-tag g c =
    let bytes = c.args.bytes.items in
    let long : 5 ≤ length bytes = omega (arith, c.if-len-lt5.false, c.len.ensures, c.args.bytes.ok) in
    let none : rest_fault (phase_of c.args.due) bytes ≡ None = ap (rest_fault (phase_of c.args.due)) (sym c.deref.ensures.value) ∙ sym c.first_fault.ensures.value ∙ c.in_default.is in
    let other = λ (is : tag_field bytes ≡ delta_tag). c.if-index-eq-DELTA.false (get_or_read bytes 4 c.index.result.now (omega (arith, long)) c.index.ensures 0 ∙ is) in
    subst (λ b. (tag_field b ≡ clock_tag) ⊎ (tag_field b ≡ end_tag)) (sym c.deref-3.ensures.value) (clock_or_end (phase_of c.args.due) bytes long none other)

pub returns-then-missing-gt0-clause-valid : goal.returns-then-missing-gt0-clause-valid
returns-then-missing-gt0-clause-valid g c =
    let bytes = c.args.bytes.items in
    let long : 5 ≤ length bytes = omega (arith, c.if-len-lt5.false, c.len.ensures, c.args.bytes.ok) in
    let none : rest_fault (phase_of c.args.due) bytes ≡ None = ap (rest_fault (phase_of c.args.due)) (sym c.deref.ensures.value) ∙ sym c.first_fault.ensures.value ∙ c.in_default.is in
    let field : c.length_field.result ≡ length_field bytes = c.length_field.ensures.value ∙ ap length_field c.deref-2.ensures.value in
    let size : c.len-2.result ≡ length bytes = omega (arith, c.len-2.ensures, c.args.bytes.ok) in
    let other = λ (is : tag_field bytes ≡ delta_tag). c.if-index-eq-DELTA.false (get_or_read bytes 4 c.index.result.now (omega (arith, long)) c.index.ensures 0 ∙ is) in
    clock_begins (phase_of c.args.due) bytes long none other (omega (arith, field, size, c.if-missing-gt0.true)) (not_done (phase_of c.args.due) c.requires.open)

pub returns-then-missing-gt0-clause-steps : goal.returns-then-missing-gt0-clause-steps
returns-then-missing-gt0-clause-steps g c r y e =
    let bytes = c.args.bytes.items in
    let long : 5 ≤ length bytes = omega (arith, c.if-len-lt5.false, c.len.ensures, c.args.bytes.ok) in
    let none : rest_fault (phase_of c.args.due) bytes ≡ None = ap (rest_fault (phase_of c.args.due)) (sym c.deref.ensures.value) ∙ sym c.first_fault.ensures.value ∙ c.in_default.is in
    let field : c.length_field.result ≡ length_field bytes = c.length_field.ensures.value ∙ ap length_field c.deref-2.ensures.value in
    let size : c.len-2.result ≡ length bytes = omega (arith, c.len-2.ensures, c.args.bytes.ok) in
    is_at c.args.role (phase_of c.args.due) (Known bytes) (g.P.Peer.held c.args.peer.now) c.args.out.now.items bytes _
    (fed_front c.args.role (phase_of c.args.due) (g.P.Peer.held c.args.peer.now) c.args.out.now.items r y bytes c.requires.open e (not_begun bytes (λ _. omega (arith, field, size, c.if-missing-gt0.true))) none)
    refl
