-- One period of settled heaps between two equal windows shows that it holds.
use Rattle.std.proofs.Common.{◌≡◌, ℕ, zero, suc, ◌+◌, ◌-◌, ◌%◌, ◌<◌, ◌≤◌, Bool, true, false, eqb, if◌then◌else◌, IsTrue, bit_and, bit_xor, count_ones, inl, inr, refl, sym, ap, ◌∙◌, subst, arith}
use Rattle.std.proofs.lemmas.Bool.{cases_lt, cases_order, false≢true}
use Rattle.oct_code.specs.Code.{Code, allows}
use Rattle.oct_mex.specs.Laws.{SettledRunsHold}
use Rattle.oct_mex.specs.NimValues.{nim_value, IsOptionValue}
use Rattle.oct_mex.specs.Periods.{IsPeriodicWithin}
use Rattle.oct_mex.specs.Rare.{is_rare, IsFit}
use Rattle.oct_mex.specs.Windows.{window, IsReached, IsRun, IsSettled}
use Rattle.oct_mex.specs.declared.mask.Mask.{Mask}
use Rattle.oct_mex.proofs.Marked.{class_even}
use Rattle.oct_mex.proofs.Moves.{heaps_two, parts}
use Rattle.oct_mex.proofs.NimValues.{nim_sequence}
use Rattle.oct_mex.proofs.Parity.{xor_even}
use Rattle.oct_mex.proofs.Periods.{option_down, option_up}

-- a heap and one an even number of beans later are of one class
again : (parity : Bool) (turn n period ones : ℕ) → (parity ≡ true → period % 2 ≡ 0)
    → (ones + (if parity then n + period + turn else 0)) % 2 ≡ (ones + (if parity then n + turn else 0)) % 2
again true turn n period ones even = omega (arith, even refl)
again false turn n period ones even = refl

rare_again : (mask : Mask) (n period v : ℕ) → (mask.parity ≡ true → period % 2 ≡ 0) → is_rare mask (n + period) v ≡ is_rare mask n v
rare_again mask n period v even = ap (λ r. eqb r 0) (again mask.parity mask.turn n period (count_ones (bit_and mask.bits v)) even)

-- two common heaps give no common value
pub common_pair : (c : Code) (mask : Mask) (n w : ℕ) → IsFit c mask → (o : IsOptionValue c (nim_value c) n w) → 1 ≤ o.a
    → is_rare mask o.a (nim_value c o.a) ≡ false → is_rare mask o.b (nim_value c o.b) ≡ false → is_rare mask n w ≡ true
common_pair c mask n w fit o first not_a not_b =
    let g = nim_value c in
    let p = parts c n o.a o.b o.move in
    let r = o.move.removed in
    let allowed : IsTrue (allows c r 2) = subst (λ h. IsTrue (allows c r h)) (heaps_two o.a o.b first) p.allowed in
    ap (is_rare mask n) o.is
    ∙ class_even mask.parity mask.turn n r o.a o.b (count_ones (bit_and mask.bits (g o.a))) (count_ones (bit_and mask.bits (g o.b))) (count_ones (bit_and mask.bits (bit_xor (g o.a) (g o.b))))
    (λ counts. fit counts r p.few allowed) p.total (xor_even mask.bits (g o.a) (g o.b)) not_a not_b

module _ (c : Code) (mask : Mask) (reach start period : ℕ) (run : IsRun c mask reach start period) where
  abbrev g : ℕ → ℕ
  g = nim_value c

  -- where the values before a heap come again, and the heaps between are common, a settled heap comes again, and is settled then
  module _ (n : ℕ) (behind : start ≤ n) (known : IsPeriodicWithin c (start - window c reach) period n)
      (common : (h : ℕ) → reach < h → h < n + period → is_rare mask h (g h) ≡ false) (settled : IsSettled c mask reach n) where
    -- each smaller value comes of the same move one period later
    reached_again : (u : ℕ) → u < g n → IsReached c reach (n + period) u
    reached_again u less =
        let o = settled.reached u less in
        let p = parts c n o.0.a o.0.b o.0.move in
        let room = run.room in
        let q = option_up c (start - window c reach) period n known u o.0 (omega (arith, p.total, p.few, o.1)) (omega (arith, p.total, p.few, o.1)) in
        (q.0, omega (arith, q.1, o.1))

    -- the value itself comes of no move
    not_reached : IsOptionValue c g (n + period) (g n) → ⊥
    not_reached o =
        let p = parts c (n + period) o.a o.b o.move in
        let room = run.room in
        elim (cases_lt reach o.a) [
          | inr near ↦ (nim_sequence c n).excluded (option_down c (start - window c reach) period n known (g n) o (omega (arith, p.total, p.few)) (omega (arith, p.total, p.few)))
          | inl far ↦
              let rare = common_pair c mask (n + period) (g n) run.fit o (omega arith) (common o.a far (omega (arith, p.ordered, p.smaller))) (common o.b (omega (arith, p.ordered)) p.smaller) in
              false≢true (sym settled.common ∙ sym (rare_again mask n period (g n) run.even) ∙ rare)
        ]

    value_again : g (n + period) ≡ g n
    value_again = elim (cases_order (g (n + period)) (g n)) [
      | inl e ↦ e
      | inr other ↦ elim other [
        | inl less ↦ absurd ((nim_sequence c (n + period)).excluded (reached_again (g (n + period)) less).0)
        | inr more ↦ absurd (not_reached ((nim_sequence c (n + period)).below (g n) more))
      ]
    ]

    settled_again : IsSettled c mask reach (n + period)
    settled_again = record {
      common = ap (is_rare mask (n + period)) value_again ∙ rare_again mask n period (g n) run.even ∙ settled.common;
      reached = λ u less. reached_again u (subst (λ v. u < v) value_again less);
    }

  -- what holds of each heap from the start of the run on
  record Goes (n : ℕ) : Type 0 where
    pub value : g (n + period) ≡ g n
    pub settled : IsSettled c mask reach (n + period)

  module _ (n : ℕ) (before : (m : ℕ) → m < n → start ≤ m → Goes m) where
    settled_at : (m : ℕ) → start ≤ m → m < n + period → IsSettled c mask reach m
    settled_at m behind less = elim (cases_lt m (start + period)) [
      | inl near ↦ run.settled m behind near
      | inr far ↦ subst (IsSettled c mask reach) (omega (arith, run.some)) (before (m - period) (omega (arith, run.some)) (omega arith)).settled
    ]

    known_at : IsPeriodicWithin c (start - window c reach) period n
    known_at m high low = elim (cases_lt m start) [ inl near ↦ run.windows m high near | inr far ↦ (before m low far).value ]

    common_at : (h : ℕ) → reach < h → h < n + period → is_rare mask h (g h) ≡ false
    common_at h high low = elim (cases_lt h start) [ inl near ↦ run.common h high near | inr far ↦ (settled_at h far low).common ]

    goes_at : start ≤ n → Goes n
    goes_at behind =
        let settled = settled_at n behind (omega (arith, run.some)) in
        record { value = value_again n behind known_at common_at settled; settled = settled_again n behind known_at common_at settled }

  goes_below : (depth n : ℕ) → n < depth → start ≤ n → Goes n
  goes_below zero n less behind = absurd (omega arith)
  goes_below (suc depth) n less behind = goes_at n (λ m low high. goes_below depth m (omega arith) high) behind

pub settled_runs_hold : SettledRunsHold
settled_runs_hold c mask reach start period run n behind = elim (cases_lt n start) [
  | inl near ↦ run.windows n behind near
  | inr far ↦ (goes_below c mask reach start period run (suc n) n (omega arith) far).value
]
