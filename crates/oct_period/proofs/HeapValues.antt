-- The values of heaps and positions are nim-values.
use Rattle.std.proofs.Common.{◌≡◌, ℕ, zero, suc, ◌+◌, ◌-◌, ◌%◌, ◌<◌, ◌≤◌, length, get_or, Bool, true, false, cond, ltb, bit_xor, List, [], ◌∷◌, Option, Some, None, Result, Ok, Err, refl, sym, ap, ◌∙◌, subst, arith}
use Rattle.std.proofs.lemmas.Bool.{false≢true, ltb-false, ltb-true}
use Rattle.std.proofs.lemmas.List.Elements.{All-head, All-tail}
use Rattle.std.specs.List.{All, find}
use Rattle.std.specs.Option.{option_map, unwrap_or}
use Rattle.oct_code.specs.Code.{Code}
use Rattle.oct_mex.specs.NimValues.{nim_value, position_value as nim_sum}
use Rattle.oct_mex.specs.Periods.{IsPeriodicFrom}
use Rattle.oct_mex.proofs.Periods.{periods_give_nim_values}
use Rattle.oct_ops.specs.Operation.{Block, Period}
use Rattle.oct_verify.specs.Known.{known}
use Rattle.oct_period.specs.Claims.{Claim}
use Rattle.oct_period.specs.Moving.{IsReached}
use Rattle.oct_period.specs.Laws.{IsClaimOf, HeapValuesAreRight, PositionValuesAreRight}
use Rattle.oct_period.specs.Periods.{is_proved, period_status, value_by, heap_value, heap_value_by, xor_onto, position_value_from}
use Rattle.oct_period.specs.declared.status.PeriodStatus.{PeriodStatus}
use Rattle.oct_period.specs.declared.status.PeriodStatus.TheVariants.{Proved, Refuted, Pending}
use Rattle.oct_period.specs.declared.unknown.Unknown.{Unknown}
use Rattle.oct_period.proofs.Statuses.{proved_holds, proved_needs}

pub proved_so : (s : PeriodStatus) → is_proved s ≡ true → s ≡ Proved
proved_so Proved h = refl
proved_so (Refuted n) h = cc
proved_so (Pending n) h = cc

module _ (c : Code) (blocks : List Block) where
  -- a proved claim gives the nim-value of a heap past the known length
  pub by_claim : (p : Period) (n value : ℕ) → IsClaimOf c p → period_status blocks p ≡ Proved → known blocks ≤ n → value_by c n (Some p) ≡ Some value → value ≡ nim_value c n
  by_claim p n value claim proved past h =
      let enough = proved_needs blocks p proved in
      let periodic : IsPeriodicFrom c p.start p.period = subst (λ d. IsPeriodicFrom d p.start p.period) claim.code (proved_holds blocks p claim.later proved) in
      let value_is : nim_value c (p.start + (n - p.start) % p.period) ≡ value = ap (λ o. unwrap_or o value) h in
      sym value_is ∙ sym (periods_give_nim_values c p.start p.period n periodic (omega (arith, enough, past)))

  by_claims : (claims : List Period) (n value : ℕ) → All (IsClaimOf c) claims → known blocks ≤ n → value_by c n (find (λ p. is_proved (period_status blocks p)) claims) ≡ Some value → value ≡ nim_value c n
  by_claims [] n value each past h = cc
  by_claims (p ∷ claims) n value each past h =
      elim (is_proved (period_status blocks p)) as (λ b. is_proved (period_status blocks p) ≡ b → value_by c n (cond b (Some p) (find (λ q. is_proved (period_status blocks q)) claims)) ≡ Some value → value ≡ nim_value c n) [
        | true ↦ λ e k. by_claim p n value (All-head (IsClaimOf c) p claims each) (proved_so (period_status blocks p) e) past k
        | false ↦ λ e k. by_claims claims n value (All-tail (IsClaimOf c) p claims each) past k
      ] refl h

pub heap_values_are_right : HeapValuesAreRight
heap_values_are_right c blocks claims n value each h =
    elim (ltb n (known blocks)) as (λ b. ltb n (known blocks) ≡ b → ◌≡◌ {A = Option ℕ} (elim b [ true ↦ Some (nim_value c n) | false ↦ value_by c n (find (λ p. is_proved (period_status blocks p)) claims) ]) (Some value) → value ≡ nim_value c n) [
      | true ↦ λ _ k. sym (ap (λ o. unwrap_or o value) k)
      | false ↦ λ past k. by_claims c blocks claims n value each (let low = ltb-false n (known blocks) past in omega (arith, low)) k
    ] refl h

-- ---- positions

abbrev ok_of : Result ℕ Unknown → ℕ → ℕ
ok_of (Ok v) d = v
ok_of (Err u) d = d

pub xor_ok : (v value : ℕ) (r : Result ℕ Unknown) → xor_onto v r ≡ Ok value → (w : ℕ) × (r ≡ Ok w) × (value ≡ bit_xor v w)
xor_ok v value (Ok w) h = (w, refl, sym (ap (λ r. ok_of r value) h))
xor_ok v value (Err u) h = cc

from_place : (value : ℕ → Option ℕ) (c : Code) → ((n v : ℕ) → value n ≡ Some v → v ≡ nim_value c n) → (i : ℕ) (heaps : List ℕ) (whole : ℕ) → position_value_from value i heaps ≡ Ok whole → whole ≡ nim_sum c heaps
from_place value c right i [] whole h = sym (ap (λ r. ok_of r whole) h)
from_place value c right i (n ∷ heaps) whole h =
    elim (value n) as (λ o. value n ≡ o → ◌≡◌ {A = Result ℕ Unknown} (elim o [ None ↦ Err (record { index = i }) | Some v ↦ xor_onto v (position_value_from value (i + 1) heaps) ]) (Ok whole) → whole ≡ nim_sum c (n ∷ heaps)) [
      | None ↦ λ _ k. cc
      | Some v ↦ λ e k.
          let parts = xor_ok v whole (position_value_from value (i + 1) heaps) k in
          parts.2 ∙ (λ j. bit_xor (right n v e j) (from_place value c right (i + 1) heaps parts.0 parts.1 j))
    ] refl h

pub position_values_are_right : PositionValuesAreRight
position_values_are_right c blocks claims heaps value each h = from_place (heap_value c blocks claims) c (λ n v is. heap_values_are_right c blocks claims n v each is) 0 heaps value h

-- ---- the heaps of a position that has a value are reached

by_blocks_or_claim : (c : Code) (blocks : List Block) (claim : Option Claim) (n value : ℕ) → heap_value_by c blocks (option_map (λ (d : Claim). d.1) claim) n ≡ Some value → IsReached blocks claim n
by_blocks_or_claim c blocks (Some d) n value h none = absurd (false≢true (sym none))
by_blocks_or_claim c blocks None n value h none = elim (ltb n (known blocks)) as (λ b. ltb n (known blocks) ≡ b → ◌≡◌ {A = Option ℕ} (elim b [ true ↦ Some (nim_value c n) | false ↦ None ]) (Some value) → n < known blocks) [
  | true ↦ λ e _. ltb-true n (known blocks) e
  | false ↦ λ _ k. cc
] refl h

pub all_reached : (c : Code) (blocks : List Block) (claim : Option Claim) (i : ℕ) (heaps : List ℕ) (whole : ℕ)
    → Ok whole ≡ position_value_from (heap_value_by c blocks (option_map (λ (d : Claim). d.1) claim)) i heaps → All (IsReached blocks claim) heaps
all_reached c blocks claim i [] whole h k d low = absurd (omega arith)
all_reached c blocks claim i (n ∷ heaps) whole h k d low =
    let value : ℕ → Option ℕ = heap_value_by c blocks (option_map (λ (e : Claim). e.1) claim) in
    elim (value n) as (λ o. value n ≡ o → ◌≡◌ {A = Result ℕ Unknown} (Ok whole) (elim o [ None ↦ Err (record { index = i }) | Some v ↦ xor_onto v (position_value_from value (i + 1) heaps) ]) → IsReached blocks claim (get_or (n ∷ heaps) k d)) [
      | None ↦ λ _ e. cc
      | Some v ↦ λ is e.
          let parts = xor_ok v whole (position_value_from value (i + 1) heaps) (sym e) in
          at_place v is (all_reached c blocks claim (i + 1) heaps parts.0 (sym parts.1)) k low
    ] refl h
  where
    at_place : (v : ℕ) → heap_value_by c blocks (option_map (λ (e : Claim). e.1) claim) n ≡ Some v → All (IsReached blocks claim) heaps → (k : ℕ) → k < suc (length heaps) → IsReached blocks claim (get_or (n ∷ heaps) k d)
    at_place v is rest zero low = by_blocks_or_claim c blocks claim n v is
    at_place v is rest (suc k) low = rest k d (omega arith)

-- ---- what the blocks alone give is what they give with any claim

pub heap_by_blocks : (c : Code) (blocks : List Block) (p : Option Period) (n value : ℕ) → heap_value_by c blocks None n ≡ Some value → heap_value_by c blocks p n ≡ Some value
heap_by_blocks c blocks p n value = elim (ltb n (known blocks)) as (λ b. ◌≡◌ {A = Option ℕ} (elim b [ true ↦ Some (nim_value c n) | false ↦ None ]) (Some value) → ◌≡◌ {A = Option ℕ} (elim b [ true ↦ Some (nim_value c n) | false ↦ value_by c n p ]) (Some value)) [
  | true ↦ λ is. is
  | false ↦ λ is. cc
]

pub position_by_blocks : (c : Code) (blocks : List Block) (p : Option Period) (i : ℕ) (heaps : List ℕ) (whole : ℕ)
    → position_value_from (heap_value_by c blocks None) i heaps ≡ Ok whole → position_value_from (heap_value_by c blocks p) i heaps ≡ Ok whole
position_by_blocks c blocks p i [] whole = λ h. h
position_by_blocks c blocks p i (n ∷ heaps) whole =
    let by : Option Period → Bool → Result ℕ Unknown = λ q b. elim (elim b as (λ _. Option ℕ) [ true ↦ Some (nim_value c n) | false ↦ value_by c n q ]) [
      | None ↦ Err (record { index = i })
      | Some v ↦ xor_onto v (position_value_from (heap_value_by c blocks q) (i + 1) heaps)
    ] in
    elim (ltb n (known blocks)) as (λ b. by None b ≡ Ok whole → by p b ≡ Ok whole) [
      | true ↦ λ h.
          let v = nim_value c n in
          let parts = xor_ok v whole (position_value_from (heap_value_by c blocks None) (i + 1) heaps) h in
          ap (xor_onto v) (position_by_blocks c blocks p (i + 1) heaps parts.0 parts.1) ∙ ap Ok (sym parts.2)
      | false ↦ λ h. cc
    ]
