-- What is left after a frame.
use Rattle.std.proofs.Common.{◌≡◌, ℕ, ◌+◌, ◌-◌, ◌<◌, ◌≤◌, Bool, true, false, IsTrue, List, [], ◌∷◌, ◌++◌, eqb, length, drop, refl, sym, ap, ◌∙◌, append_assoc, arith}
use Rattle.std.proofs.lemmas.Bool.{eqb-true}
use Rattle.std.proofs.lemmas.List.{append-nil, length-append, length-drop, drop_all, take_all}
use Rattle.std.specs.List.{slice_range}
use Rattle.oct_delta.specs.Delta.{encoded}
use Rattle.oct_delta.specs.Text.{Bytes}
use Rattle.oct_join.specs.Clock.{Clock}
use Rattle.oct_ops.specs.Body.{Operation}
use Rattle.oct_ops.specs.Operations.{Operations, IsRising, listed, set_of}
use Rattle.oct_ops.specs.OrderLaws.{op_cmp_exact, op_cmp_total}
use Rattle.oct_ops.specs.SetLaws as laws
use Rattle.oct_store.specs.Summary.{not_covered}
use Rattle.oct_sync.specs.Frames.{delta_frames, delta_tag, end_frame, frame_bytes}
use Rattle.oct_sync.specs.Packs.{pack_frame}
use Rattle.oct_sync.specs.Session.{missing_frames}
use Rattle.oct_sync.proofs.Written.{length-encoded, pack_frame-some}
use Rattle.oct_answer.specs.Left.{lacking, left, IsNext}

-- all that a clock does not cover is left at first
pub all_left : (held : Operations) (t : Clock) → left held t 0 false ≡ missing_frames held t
all_left held t = ap (λ (ops : List Operation). delta_frames ops ++ end_frame) (sym (laws.listed-keep op_cmp_total op_cmp_exact (not_covered t) held))

some_end : (z : Bytes) → z ++ end_frame ≡ [] → ⊥
some_end z none =
    let count : length (z ++ end_frame) ≡ length z + 5 = length-append z end_frame in
    let nothing : length (z ++ end_frame) ≡ 0 = ap length none in
    omega (arith, count, nothing)

differs : false ≡ true → ⊥
differs e = cc

-- nothing is left behind the end, and something before it
pub is_over : (held : Operations) (t : Clock) (at : ℕ) (over : Bool) (now : Bytes) → left held t at over ≡ now → (IsTrue over → now ≡ []) × (now ≡ [] → IsTrue over)
is_over held t at true now is = (λ _. sym is, λ _. refl)
is_over held t at false now is = (λ no. absurd (differs no), λ none. absurd (some_end (delta_frames (lacking held t at)) (is ∙ none)))

pub nothing_left : (held : Operations) (t : Clock) (at : ℕ) (over : Bool) (now : Bytes) → over ≡ true → left held t at over ≡ now → now ≡ []
nothing_left held t at over now e is = sym is ∙ ap (left held t at) e

-- ---- the end is sent

pub at_end : (held : Operations) (t : Clock) (at size end : ℕ) (ops : List Operation) → IsNext held t at ops size end → ops ≡ [] → left held t at false ≡ end_frame
at_end held t at size end ops is none = ap (λ (l : List Operation). delta_frames l ++ end_frame) (is.none none)

pub end_sent : (held : Operations) (t : Clock) (at size end : ℕ) (ops : List Operation) (old new before now : Bytes) → IsNext held t at ops size end → ops ≡ [] → left held t at false ≡ before → now ≡ [] → new ≡ old ++ end_frame → new ++ now ≡ old ++ before
end_sent held t at size end ops old new before now is none was gone sent =
    ap (λ (z : Bytes). new ++ z) gone ∙ append-nil new ∙ sent ∙ ap (λ (z : Bytes). old ++ z) (sym (at_end held t at size end ops is none) ∙ was)

pub end_short : (old new : Bytes) → new ≡ old ++ end_frame → length new ≡ length old + 5
end_short old new sent = ap length sent ∙ length-append old end_frame

-- ---- a pack is sent

pub at_pack : (held : Operations) (t : Clock) (at size end : ℕ) (ops : List Operation) → IsNext held t at ops size end → left held t at false ≡ pack_frame ops ++ left held t end false
at_pack held t at size end ops is =
    ap (λ (z : Bytes). z ++ end_frame) is.frames ∙ append_assoc (pack_frame ops) (delta_frames (lacking held t end)) end_frame

pub pack_sent : (held : Operations) (t : Clock) (at size end : ℕ) (ops : List Operation) (old new before now : Bytes) → IsNext held t at ops size end → eqb (length ops) 0 ≡ false → left held t at false ≡ before → left held t end false ≡ now
    → new ≡ old ++ frame_bytes delta_tag (encoded ops) → new ++ now ≡ old ++ before
pack_sent held t at size end ops old new before now is some was later sent =
    ap (λ (z : Bytes). z ++ now) (sent ∙ ap (λ (z : Bytes). old ++ z) (sym (pack_frame-some ops some)))
    ∙ append_assoc old (pack_frame ops) now
    ∙ ap (λ (z : Bytes). old ++ z) (ap (λ (z : Bytes). pack_frame ops ++ z) (sym later) ∙ sym (at_pack held t at size end ops is) ∙ was)

pub pack_short : (held : Operations) (t : Clock) (at size end : ℕ) (ops : List Operation) (old new : Bytes) → IsNext held t at ops size end → new ≡ old ++ frame_bytes delta_tag (encoded ops) → (length old < length new) × (length new ≤ length old + 1048580)
pack_short held t at size end ops old new is sent =
    let whole : length new ≡ length old + length (frame_bytes delta_tag (encoded ops)) = ap length sent ∙ length-append old (frame_bytes delta_tag (encoded ops)) in
    let framed : length (frame_bytes delta_tag (encoded ops)) ≡ 5 + length (encoded ops) = omega arith in
    let counted = length-encoded ops in
    let sized = is.sized in
    let fits = is.fits in
    (omega (arith, whole, framed), omega (arith, whole, framed, counted, sized, fits))

-- ---- the operations from a place on

pub as_listed : (held : Operations) (ops : List Operation) → IsRising ops → set_of ops ≡ held → ops ≡ listed held
as_listed held ops rising is = sym (laws.listed-set_of op_cmp_total op_cmp_exact ops rising) ∙ ap listed is

-- a part that goes to the end, or none, where the place lies behind it
pub part_from : (held : Operations) (ops xs part : List Operation) (at : ℕ) → IsRising ops → set_of ops ≡ held → xs ≡ ops → part ≡ slice_range xs at (length xs) → part ≡ drop at (listed held)
part_from held ops xs part at rising is same cut =
    cut ∙ take_all (length xs - at) (drop at xs) (let count = length-drop at xs in omega (arith, count)) ∙ ap (drop at) (same ∙ as_listed held ops rising is)

pub no_part : (held : Operations) (ops xs part : List Operation) (at : ℕ) → IsRising ops → set_of ops ≡ held → xs ≡ ops → length xs < at → part ≡ [] → part ≡ drop at (listed held)
no_part held ops xs part at rising is same past none =
    none ∙ sym (drop_all at xs (omega (arith, past))) ∙ ap (drop at) (same ∙ as_listed held ops rising is)

pub none_of : (ops : List Operation) → eqb (length ops) 0 ≡ true → ops ≡ []
none_of [] h = refl
none_of (o ∷ ops) h = absurd (omega (arith, eqb-true (length (o ∷ ops)) 0 h))
