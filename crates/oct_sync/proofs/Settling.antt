-- What the first bytes of a frame are that show no fault.
use Rattle.std.proofs.Common.{◌≡◌, ℕ, ◌+◌, ◌-◌, ◌<◌, ◌≤◌, ◌⊎◌, Bool, true, false, ◌&&◌, ◌||◌, eqb, [], length, leb, Option, Some, None, refl, subst, inl, inr, arith}
use Rattle.std.specs.Cmp.{first_so}
use Rattle.std.proofs.lemmas.Bool.{eqb-true, leb-true}
use Rattle.oct_delta.specs.Text.{Bytes}
use Rattle.oct_sync.specs.Frames.{clock_tag, delta_tag, end_tag, is_length, length_field, max_frame, tag_field}
use Rattle.oct_sync.specs.Session.{Phase, IsDone, head_fault, is_due, is_head, rest_fault}
use Rattle.oct_sync.specs.SessionState.{IsDeltaFront, IsFront, IsShort, IsWholeFrame}
use Rattle.oct_sync.specs.declared.error.SyncError.{SyncError}
use Rattle.oct_sync.specs.declared.error.SyncError.TheVariants as fault
use Rattle.oct_sync.proofs.Stepping.{faultless_head, not_begun}

some_length : (n : ℕ) → is_length n ≡ true → 1 ≤ n
some_length n is = leb-true 1 n (first_so (leb 1 n) (leb n max_frame) is)

no_clock : (tag : ℕ) → tag ≡ clock_tag → tag ≡ delta_tag → ⊥
no_clock tag e f = omega (arith, e, f)

-- no more than the first five bytes of a delta came
five : (bytes : Bytes) → 5 ≤ length bytes → IsShort bytes → tag_field bytes ≡ delta_tag → length bytes ≡ 5
five bytes long (inl few) is = omega (arith, long, few)
five bytes long (inr clock) is = absurd (no_clock (tag_field bytes) clock.0 is)

pub delta_begins : (phase : Phase) (bytes : Bytes) (missing : ℕ) → 5 ≤ length bytes → IsShort bytes → rest_fault phase bytes ≡ None → tag_field bytes ≡ delta_tag → missing ≡ 4 + length_field bytes - length bytes → IsDeltaFront phase bytes missing (Some [])
delta_begins phase bytes missing long short none is counts =
    let head = faultless_head phase bytes long none in
    let len = five bytes long short is in
    let some = some_length (length_field bytes) head.0 in
    record {
      long = len;
      is = head.0;
      tag = is;
      due = subst (λ (tag : ℕ). head_fault phase (length_field bytes) tag ≡ None) is head.1;
      few = omega (arith, len, some, counts);
      counted = (omega (arith, len, some, counts), λ i. omega arith);
    }

-- no byte is missing
pub frame_ends : (phase : Phase) (bytes : Bytes) → 5 ≤ length bytes → IsShort bytes → rest_fault phase bytes ≡ None → 4 + length_field bytes ≤ length bytes → IsWholeFrame phase bytes
frame_ends phase bytes long short none le =
    let head = faultless_head phase bytes long none in
    let some = some_length (length_field bytes) head.0 in
    record { long = long; is = head.0; ends = ends short some; due = head.1 }
  where
    ends : IsShort bytes → 1 ≤ length_field bytes → length bytes ≡ 4 + length_field bytes
    ends (inl few) some = omega (arith, few, some, le)
    ends (inr clock) some = let few = clock.1 in omega (arith, few, le)

-- ---- frames of the other tags

abbrev shown : Bool → Bool → Option SyncError
shown has due = elim has [ false ↦ Some fault.Frame | true ↦ elim due [ true ↦ None | false ↦ Some fault.Order ] ]

head_passes : (has due : Bool) → shown has due ≡ None → has ≡ true
head_passes true due e = refl
head_passes false due e = absurd cc

either : (a b c d : Bool) → (a || (b || (c && d))) ≡ true → (b ≡ true → ⊥) → (a ≡ true) ⊎ ((c ≡ true) × (d ≡ true))
either true b c d e other = inl refl
either false true c d e other = absurd (other refl)
either false false true true e other = inr (refl, refl)
either false false true false e other = absurd cc
either false false false d e other = absurd cc

no_delta : (phase : Phase) (n tag : ℕ) → head_fault phase n tag ≡ None → (tag ≡ delta_tag → ⊥) → (tag ≡ clock_tag) ⊎ ((tag ≡ end_tag) × (n ≡ 1))
no_delta phase n tag e other =
    elim (either (eqb tag clock_tag) (eqb tag delta_tag) (eqb tag end_tag) (eqb n 1) (head_passes (is_head n tag) (is_due phase tag) e) (λ is. other (eqb-true tag delta_tag is))) [
      | inl is ↦ inl (eqb-true tag clock_tag is)
      | inr is ↦ inr (eqb-true tag end_tag is.0, eqb-true n 1 is.1)
    ]

pub clock_or_end : (phase : Phase) (bytes : Bytes) → 5 ≤ length bytes → rest_fault phase bytes ≡ None → (tag_field bytes ≡ delta_tag → ⊥) → (tag_field bytes ≡ clock_tag) ⊎ (tag_field bytes ≡ end_tag)
clock_or_end phase bytes long none other =
    elim (no_delta phase (length_field bytes) (tag_field bytes) (faultless_head phase bytes long none).1 other) [
      | inl is ↦ inl is
      | inr is ↦ inr is.0
    ]

-- a byte is missing
pub clock_begins : (phase : Phase) (bytes : Bytes) → 5 ≤ length bytes → rest_fault phase bytes ≡ None → (tag_field bytes ≡ delta_tag → ⊥) → length bytes < 4 + length_field bytes → (phase ≡ IsDone → bytes ≡ []) → IsFront phase bytes
clock_begins phase bytes long none other lt ended = record {
  unfinished = not_begun bytes (λ _. lt);
  faultless = none;
  tag = λ _. elim (no_delta phase (length_field bytes) (tag_field bytes) (faultless_head phase bytes long none).1 other) [
    | inl is ↦ is
    | inr is ↦ let one = is.1 in absurd (omega (arith, long, lt, one))
  ];
  ended = ended;
}
