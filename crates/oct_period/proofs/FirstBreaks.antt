-- The first break of a period, by two slices of the nim-values.
use Rattle.std.proofs.Common.{◌≡◌, ◌≢◌, ℕ, ◌+◌, ◌-◌, ◌<◌, ◌≤◌, zero, suc, List, length, take, drop, get_or, slice_index, Some, None, true, false, inl, inr, refl, sym, ap, ◌∙◌, arith}
use Rattle.std.proofs.lemmas.Bool.{eq-eqb, ne_eqb, le-leb, cases_eq}
use Rattle.std.proofs.lemmas.List.{length-drop, length-take-le}
use Rattle.oct_code.specs.Code.{Code}
use Rattle.oct_mex.specs.NimValues.{nim_value, nim_values}
use Rattle.oct_ops.specs.Faults.{period_fault}
use Rattle.oct_ops.specs.Operation.{Block, Period}
use Rattle.oct_ops.specs.Valid.{IsPeriod}
use Rattle.oct_verify.specs.Known.{known}
use Rattle.oct_verify.proofs.Verdicts.{at_window}
use Rattle.oct_period.specs.Laws.{IsLater}
use Rattle.oct_period.specs.Periods.{first_break, needs, status_at, period_status}
use Rattle.oct_period.specs.declared.status.PeriodStatus.TheVariants.{Proved, Refuted, Pending}

module _ (c : Code) (period : ℕ) where
  -- the nim-values from n on, of as many, come again one period later
  abbrev ComeAgain : ℕ → ℕ → Type 0
  ComeAgain n count = (k : ℕ) → k < count → nim_value c (n + k) ≡ nim_value c (n + period + k)

  later_ones : (n count : ℕ) → ComeAgain n (suc count) → ComeAgain (n + 1) count
  later_ones n count h k lt =
      let e : n + 1 + k ≡ n + suc k = omega arith in
      let f : n + period + suc k ≡ n + 1 + period + k = omega arith in
      ap (nim_value c) e ∙ h (suc k) (omega arith) ∙ ap (nim_value c) f

  first_one : (n count : ℕ) → ComeAgain n (suc count) → nim_value c (n + period) ≡ nim_value c n
  first_one n count h =
      let e : n + 0 ≡ n = omega arith in
      let f : n + period + 0 ≡ n + period = omega arith in
      sym (sym (ap (nim_value c) e) ∙ h 0 (omega arith) ∙ ap (nim_value c) f)

  no_break : (n count : ℕ) → ComeAgain n count → first_break c period count n ≡ None
  no_break n zero h = refl
  no_break n (suc count) h = rw (eq-eqb (nim_value c (n + period)) (nim_value c n) (first_one n count h), first_break) (no_break (n + 1) count (later_ones n count h))

  one_break : (n count i : ℕ) → i < count → ComeAgain n i → nim_value c (n + i) ≢ nim_value c (n + period + i) → first_break c period count n ≡ Some (n + i)
  one_break n zero i lt h ne = absurd (omega arith)
  one_break n (suc count) zero lt h ne =
      let e : n + 0 ≡ n = omega arith in
      let f : n + period + 0 ≡ n + period = omega arith in
      rw (ne_eqb (nim_value c (n + period)) (nim_value c n) (λ same. ne (ap (nim_value c) e ∙ sym same ∙ sym (ap (nim_value c) f))), first_break) (ap Some (sym e))
  one_break n (suc count) (suc i) lt h ne =
      let e : n + 1 + i ≡ n + suc i = omega arith in
      let f : n + 1 + period + i ≡ n + period + suc i = omega arith in
      rw (eq-eqb (nim_value c (n + period)) (nim_value c n) (first_one n i h), first_break) (one_break (n + 1) count i (omega arith) (later_ones n i h) (λ same. ne (sym (ap (nim_value c) e) ∙ same ∙ ap (nim_value c) f)) ∙ ap Some e)

-- the two slices that are compared: the nim-values from the start on, and those one period later
module _ (c : Code) (values : List ℕ) (start period : ℕ) (are : values ≡ nim_values c (length values)) (more : start + period < length values) where
  abbrev count : ℕ
  count = length values - (start + period)

  abbrev pub earlier : List ℕ
  earlier = take (start + count - start) (drop start values)

  abbrev pub later : List ℕ
  later = take count (drop (start + period) values)

  at_earlier : (k : ℕ) → k < count → get_or earlier k 0 ≡ nim_value c (start + k)
  at_earlier k lt = ap (λ vs. get_or (take (start + count - start) (drop start vs)) k 0) are ∙ at_window c start (start + count) (length values) k (omega arith) (omega arith)

  at_later : (k : ℕ) → k < count → get_or later k 0 ≡ nim_value c (start + period + k)
  at_later k lt = ap (λ vs. get_or (take count (drop (start + period) vs)) k 0) are ∙ at_window c (start + period) (length values) (length values) k (omega arith) lt

  pub slices_agree : earlier ≡ later → None ≡ first_break c period count start
  slices_agree same = sym (no_break c period start count (λ k lt. sym (at_earlier k lt) ∙ ap (λ vs. get_or vs k 0) same ∙ at_later k lt))

  pub slices_differ : (i : ℕ) → i < length earlier → slice_index earlier i ≢ slice_index later i → ((k : ℕ) → k < i → slice_index earlier k ≡ slice_index later k) → Some (start + i) ≡ first_break c period count start
  slices_differ i within ne before =
      let lt : i < count = omega (arith, length-take-le (start + count - start) (drop start values) (omega (arith, length-drop start values))) in
      sym (one_break c period start count i lt (λ k below. sym (at_earlier k (omega arith)) ∙ before k below ∙ at_later k (omega arith)) (λ e. ne (at_earlier i lt ∙ e ∙ sym (at_later i lt))))

-- ---- what a break says of the claim

pub is_refuted : (blocks : List Block) (p : Period) (len at : ℕ) → len ≡ known blocks → Some at ≡ first_break p.code p.period (len - (p.start + p.period)) p.start → period_status blocks p ≡ Refuted at
is_refuted blocks p len at len_is h = ap (status_at (known blocks) p) (sym (h ∙ ap (λ l. first_break p.code p.period (l - (p.start + p.period)) p.start) len_is))

pub is_proof : (blocks : List Block) (p : Period) (len : ℕ) → len ≡ known blocks → None ≡ first_break p.code p.period (len - (p.start + p.period)) p.start → needs p ≤ len → period_status blocks p ≡ Proved
is_proof blocks p len len_is h enough =
    ap (status_at (known blocks) p) (sym (h ∙ ap (λ l. first_break p.code p.period (l - (p.start + p.period)) p.start) len_is))
    ∙ ap (λ t. elim t [ true ↦ Proved | false ↦ Pending (needs p) ]) (le-leb (needs p) (known blocks) (omega arith))

-- ---- claims begin at 1 or later

pub faultless_later : (p : Period) → period_fault p ≡ None → IsLater p
faultless_later p faultless = elim (cases_eq p.start 0) [
  | inl none ↦ cc (rw (eq-eqb p.start 0 none) at faultless)
  | inr some ↦ omega arith
]

pub faultless_period : (p : Period) → period_fault p ≡ None → 1 ≤ p.period
faultless_period p faultless = elim (cases_eq p.period 0) [
  | inl none ↦ cc (rw (ne_eqb p.start 0 (λ zero. let later = faultless_later p faultless in omega (arith, zero, later)), eq-eqb p.period 0 none) at faultless)
  | inr some ↦ omega arith
]

pub valid_later : (p : Period) → IsPeriod p → IsLater p
valid_later p valid = faultless_later p valid.faultless

pub valid_period : (p : Period) → IsPeriod p → 1 ≤ p.period
valid_period p valid = faultless_period p valid.faultless
