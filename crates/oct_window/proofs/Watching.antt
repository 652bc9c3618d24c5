-- What a watch has seen.
use Rattle.std.proofs.Common.{◌≡◌, ℕ, zero, suc, ◌+◌, ◌-◌, ◌*◌, ◌%◌, ◌<◌, ◌≤◌, ◌==◌, if◌then◌else◌, Bool, true, false, List, slice_index, bit_and, count_ones, inl, inr, sym, ap, subst, subst₂, ◌∙◌, arith, mul-le-mul_left}
use Rattle.std.proofs.lemmas.Bool.{cases_eq, eq-eqb, false≢true}
use Rattle.std.proofs.Math.Nat.{suc-mul}
use Rattle.oct_code.specs.Code.{Code}
use Rattle.oct_mex.specs.NimValues.{nim_value}
use Rattle.oct_mex.specs.Periods.{IsPeriodicFrom, IsPeriodicWithin}
use Rattle.oct_mex.specs.Rare.{is_rare, IsFit}
use Rattle.oct_mex.specs.Windows.{IsRun, IsSettled, window}
use Rattle.oct_mex.specs.declared.mask.Mask.{Mask}
use Rattle.oct_mex.proofs.Windows.{settled_runs_hold}
use Rattle.oct_window.specs.Repeats.{IsRepeat}
use Rattle.oct_window.specs.Watched.{AreMarked}

-- a period holds many times over
pub many_times : (c : Code) (start period : ℕ) → IsPeriodicFrom c start period → (times n : ℕ) → start ≤ n → nim_value c (n + times * period) ≡ nim_value c n
many_times c start period p zero n h = ap (nim_value c) (omega arith)
many_times c start period p (suc times) n h =
    let next : n + suc times * period ≡ (n + times * period) + period = omega (arith, suc-mul times period) in
    ap (nim_value c) next ∙ p (n + times * period) (omega arith) ∙ many_times c start period p times n h

-- of two periods, the one that begins later holds from where the other one does
pub from_earlier : (c : Code) (start period later other : ℕ) → IsPeriodicFrom c start period → 1 ≤ period → IsPeriodicFrom c later other → IsPeriodicFrom c start other
from_earlier c start period later other p some q n h =
    let far : later ≤ n + later * period = omega (arith, mul-le-mul_left {m = 1} {n = period} later some) in
    let moved : n + other + later * period ≡ n + later * period + other = omega arith in
    sym (many_times c start period p later (n + other) (omega arith)) ∙ ap (nim_value c) moved ∙ q (n + later * period) far ∙ many_times c start period p later n h

odd : (n : ℕ) → ((n % 2) == 0) ≡ false → n % 2 ≡ 1
odd n common = elim (cases_eq (n % 2) 0) [ inl even ↦ absurd (false≢true (sym common ∙ eq-eqb (n % 2) 0 even)) | inr other ↦ omega arith ]

even_of : (counts : Bool) (turn h period ones : ℕ) → counts ≡ true → (((ones + (if counts then h + turn else 0)) % 2) == 0) ≡ false
    → (((ones + (if counts then h + period + turn else 0)) % 2) == 0) ≡ false → period % 2 ≡ 0
even_of true turn h period ones is first second = omega (arith, odd (ones + (h + turn)) first, odd (ones + (h + period + turn)) second)
even_of false turn h period ones is first second = absurd (false≢true is)

-- where the parity counts, two common heaps of one value are an even number of beans apart
pub even_apart : (mask : Mask) (h period v : ℕ) → is_rare mask h v ≡ false → is_rare mask (h + period) v ≡ false → mask.parity ≡ true → period % 2 ≡ 0
even_apart mask h period v first second is = even_of mask.parity mask.turn h period (count_ones (bit_and mask.bits v)) is first second

-- the same of another window of the same game
pub moved : (c d : Code) (mask other : Mask) (reach far at n : ℕ) (mark : List ℕ) → d ≡ c → other ≡ mask → far ≡ reach
    → AreMarked c mask reach at n mark → AreMarked d other far at n mark
moved c d mask other reach far at n mark same_code same_mask same_reach marked =
    subst (λ k. AreMarked k other far at n mark) (sym same_code) (subst₂ (λ m r. AreMarked c m r at n mark) (sym same_mask) (sym same_reach) marked)

module _ (c : Code) (mask : Mask) (reach at n : ℕ) (mark : List ℕ) (behind : reach + window c reach < at) (passed : at ≤ n) (some : 1 ≤ reach)
    (marked : AreMarked c mask reach at n mark) (settled : IsSettled c mask reach n) where
  settled_more : (m : ℕ) → at ≤ m → m < n + 1 → IsSettled c mask reach m
  settled_more m high low = elim (cases_eq m n) [ inl e ↦ subst (IsSettled c mask reach) (sym e) settled | inr ne ↦ marked.settled m high (omega arith) ]

  -- the marked values are not those before the next heap
  pub marked_more : (((i : ℕ) → i < window c reach → slice_index mark i ≡ nim_value c (n + 1 - window c reach + i)) → ⊥) → AreMarked c mask reach at (n + 1) mark
  marked_more not_again = record {
    values = marked.values;
    settled = settled_more;
    none = λ m high low periodic. elim (cases_eq m (n + 1)) [
      | inl e ↦ not_again (λ i less. marked.values i less ∙ sym (periodic (at - window c reach + i) (omega arith) (omega arith))
          ∙ ap (nim_value c) (let place : at - window c reach + i + (m - at) ≡ n + 1 - window c reach + i = omega arith in place))
      | inr ne ↦ marked.none m high (omega arith) periodic
    ];
  }

  -- or they are
  module _ (fit : IsFit c mask) (common : (h : ℕ) → reach < h → h < n + 1 → is_rare mask h (nim_value c h) ≡ false)
      (again : (i : ℕ) → i < window c reach → slice_index mark i ≡ nim_value c (n + 1 - window c reach + i)) where
    windows : IsPeriodicWithin c (at - window c reach) (n + 1 - at) at
    windows m high low =
        let i = m - (at - window c reach) in
        let here : at - window c reach + i ≡ m = omega arith in
        let there : m + (n + 1 - at) ≡ n + 1 - window c reach + i = omega arith in
        ap (nim_value c) there ∙ sym (again i (omega arith)) ∙ marked.values i (omega arith) ∙ ap (nim_value c) here

    even : mask.parity ≡ true → (n + 1 - at) % 2 ≡ 0
    even =
        let h = at - 1 in
        let p = n + 1 - at in
        let same : nim_value c (h + p) ≡ nim_value c h = windows h (omega arith) (omega arith) in
        even_apart mask h p (nim_value c h) (common h (omega arith) (omega arith)) (subst (λ v. is_rare mask (h + p) v ≡ false) same (common (h + p) (omega arith) (omega arith)))

    run : IsRun c mask reach at (n + 1 - at)
    run = record {
      fit = fit;
      some = omega arith;
      even = even;
      room = omega arith;
      common = λ h far low. common h far (omega arith);
      settled = λ m high low. settled_more m high (omega arith);
      windows = windows;
    }

    pub repeats : IsRepeat c (record { start = at - window c reach; period = n + 1 - at })
    repeats =
        let holds : IsPeriodicFrom c (at - window c reach) (n + 1 - at) = settled_runs_hold c mask reach at (n + 1 - at) run in
        record {
          first = omega arith;
          some = omega arith;
          holds = holds;
          least = λ start period some less shorter. marked.none (at + period) (omega arith) (omega arith)
              (λ m high low. ap (λ p. nim_value c (m + p)) (let p : at + period - at ≡ period = omega arith in p) ∙ from_earlier c (at - window c reach) (n + 1 - at) start period holds (omega arith) shorter m high);
        }

-- ---- one step of a watch, whose window is then another one of the same game

module _ (c d : Code) (mask other : Mask) (reach far at n count : ℕ) (mark : List ℕ) (same_code : d ≡ c) (same_mask : other ≡ mask) (same_reach : far ≡ reach)
    (next : count ≡ n + 1) (behind : reach + window c reach < at) (passed : at ≤ n) (some : 1 ≤ reach) (marked : AreMarked c mask reach at n mark)
    (settled : IsSettled c mask reach n) where
  behind_here : far + window d far < at
  behind_here = subst₂ (λ k r. r + window k r < at) (sym same_code) (sym same_reach) behind

  some_here : 1 ≤ far
  some_here = omega arith

  marked_here : AreMarked d other far at n mark
  marked_here = moved c d mask other reach far at n mark same_code same_mask same_reach marked

  settled_here : IsSettled d other far n
  settled_here = subst (λ k. IsSettled k other far n) (sym same_code) (subst₂ (λ m r. IsSettled c m r n) (sym same_mask) (sym same_reach) settled)

  -- the marked values do not come again
  pub goes_on : (((i : ℕ) → i < window d far → slice_index mark i ≡ nim_value d (count - window d far + i)) → ⊥) → AreMarked d other far at count mark
  goes_on not_again = subst (λ k. AreMarked d other far at k mark) (sym next)
      (marked_more d other far at n mark behind_here passed some_here marked_here settled_here
      (λ again. not_again (subst (λ k. (i : ℕ) → i < window d far → slice_index mark i ≡ nim_value d (k - window d far + i)) (sym next) again)))

  -- or they do
  pub comes_again : IsFit d other → ((h : ℕ) → far < h → h < count → is_rare other h (nim_value d h) ≡ false)
      → ((i : ℕ) → i < window d far → slice_index mark i ≡ nim_value d (count - window d far + i)) → IsRepeat d (record { start = at - window d far; period = count - at })
  comes_again fit common again = subst (λ k. IsRepeat d (record { start = at - window d far; period = k - at })) (sym next)
      (repeats d other far at n mark behind_here passed some_here marked_here settled_here fit (λ h high low. common h high (omega arith))
      (subst (λ k. (i : ℕ) → i < window d far → slice_index mark i ≡ nim_value d (k - window d far + i)) next again))
