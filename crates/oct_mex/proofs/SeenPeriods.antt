-- A period that a list of nim-values shows.
use Rattle.std.proofs.Common.{◌≡◌, ◌≢◌, ℕ, ◌==◌, ◌||◌, Bool, true, false, not, refl, suc, ◌+◌, ◌-◌, ◌*◌, ◌/◌, ◌<◌, ◌≤◌, ◌++◌, ◌∷◌, [], List, length, slice_index, inl, inr, subst, sym, ap, ap₂, ◌∙◌, arith}
use Rattle.std.proofs.lemmas.Bool.{cases_Bool, cases_eq, cases_lt, eqb-true, false≢true}
use Rattle.oct_code.specs.Code.{Code, len}
use Rattle.oct_mex.specs.NimValues.{nim_values, nim_value}
use Rattle.oct_mex.specs.Periods.{ComesAgain, GoesOn, IsPeriodicFrom, IsShown, NoneIsShown, NoneIsShownBefore, NoneReturns}
use Rattle.oct_mex.proofs.NimValues.{nim_values-at, nim_value-eq}
use Rattle.oct_mex.proofs.Periods.{seen_periods_hold}

-- a value of the list
value_at : (c : Code) (values : List ℕ) → values ≡ nim_values c (length values) → (n : ℕ) → n < length values → slice_index values n ≡ nim_value c n
value_at c values are n low = ap (λ xs. slice_index xs n) are ∙ nim_values-at c (length values) n low

pub shown_holds : (c : Code) (values : List ℕ) (start period : ℕ) → values ≡ nim_values c (length values) → 1 ≤ start
    → 2 * start + 2 * period + len c ≤ length values
    → ComesAgain values start period
    → IsPeriodicFrom c start period
shown_holds c values start period are some far again =
    seen_periods_hold c start period some
    (λ n low near.
    sym (value_at c values are (n + period) (omega arith)) ∙ again n low (omega arith) ∙ value_at c values are n (omega arith))

-- what is shown from some heap on comes again from each later one on
pub again_if_shown : (c : Code) (values : List ℕ) (start period from : ℕ) → values ≡ nim_values c (length values) → IsShown c (length values) start period → start ≤ from → ComesAgain values from period
again_if_shown c values start period from are shown late n low within =
    value_at c values are (n + period) within ∙ seen_periods_hold c start period shown.first shown.seen n (omega arith) ∙ sym (value_at c values are n (omega arith))

-- what does not come again from the heap before is not shown from an earlier one
pub not_shown_before : (c : Code) (values : List ℕ) (start period : ℕ) → values ≡ nim_values c (length values) → start + period ≤ length values
    → (1 < start → slice_index values (start - 1 + period) ≢ slice_index values (start - 1)) → NoneIsShownBefore c (length values) start period
not_shown_before c values start period are within first earlier low shown =
    first (omega (arith, shown.first)) (again_if_shown c values earlier period (start - 1) are shown (omega arith) (start - 1) (omega arith) (omega (arith, shown.first)))

-- what brings no values again from a place on is not shown
pub not_shown_if : (c : Code) (values : List ℕ) (from end start period : ℕ) → values ≡ nim_values c (length values) → from ≡ (length values - len c) / 2
    → NoneReturns values from end → period < end → IsShown c (length values) start period → ⊥
not_shown_if c values from end start period are half none less shown =
    let first = shown.first in
    let enough = shown.enough in
    none period shown.some less (again_if_shown c values start period (from - period) are shown (omega arith))

-- one period more that brings no values again, and some behind it that differ at a place
pub none_returns-next : (values : List ℕ) (from place period next : ℕ) → from ≤ place → place < length values → next ≤ from → NoneReturns values from period
    → (ComesAgain values (from - period) period → ⊥)
    → ((p : ℕ) → period + 1 ≤ p → p < next → slice_index values place ≢ slice_index values (place - p)) → NoneReturns values from next
none_returns-next values from place period next behind held within none here further p some less again = elim (cases_lt p period) [
  | inl low ↦ none p some low again
  | inr more ↦ elim (cases_eq p period) [
    | inl same ↦ here (subst (λ q. ComesAgain values (from - q) q) same again)
    | inr other ↦
        let back : place - p + p ≡ place = omega arith in
        further p (omega arith) less (ap (slice_index values) (sym back) ∙ again (place - p) (omega arith) (omega arith))
  ]
]

-- a walk over some values that compares each with the one a period later, x and y are the next two
pub again_next : (values : List ℕ) (from heap period x y : ℕ) (differs : Bool) → x ≡ slice_index values (heap + period) → y ≡ slice_index values heap
    → (differs ≡ false → (n : ℕ) → from ≤ n → n < heap → slice_index values (n + period) ≡ slice_index values n)
    → (differs || not (x == y)) ≡ false → (n : ℕ) → from ≤ n → n < heap + 1 → slice_index values (n + period) ≡ slice_index values n
again_next values from heap period x y true is_x is_y again same n low high = absurd (false≢true (sym same))
again_next values from heap period x y false is_x is_y again same n low high = elim (cases_eq n heap) [
  | inl e ↦ elim (cases_Bool (x == y)) [
    | inl t ↦ subst (λ m. slice_index values (m + period) ≡ slice_index values m) (sym e) (sym is_x ∙ eqb-true x y t ∙ is_y)
    | inr f ↦ absurd (false≢true (sym same ∙ ap not f))
  ]
  | inr ne ↦ again refl n low (omega arith)
]

-- ---- periods one after another

-- one period more that is not shown
pub none_shown-next : (c : Code) (count period : ℕ) → NoneIsShown c count period → ((start : ℕ) → IsShown c count start period → ⊥) → NoneIsShown c count (period + 1)
none_shown-next c count period none here start smaller low shown = elim (cases_lt smaller period) [
  | inl less ↦ none start smaller less shown
  | inr more ↦ let same : smaller ≡ period = omega arith in here start (subst (IsShown c count start) same shown)
]

-- a period that holds from a heap on goes on behind one that is a period later
pub goes_on : (c : Code) (start period held : ℕ) → start + period ≤ held → IsPeriodicFrom c start period → GoesOn c held period
goes_on c start period held far holds = (omega arith, λ n low. holds n (omega arith))

pub goes_on_further : (c : Code) (held more period : ℕ) → held ≤ more → GoesOn c held period → GoesOn c more period
goes_on_further c held more period far on = (omega (arith, on.0), λ n low. on.1 n (omega arith))

-- the value one period before is the next one
pub nim_values-copied : (c : Code) (values : List ℕ) (n period v : ℕ) → values ≡ nim_values c n → 1 ≤ period → GoesOn c n period
    → v ≡ slice_index values (n - period) → values ++ v ∷ [] ≡ nim_values c (n + 1)
nim_values-copied c values n period v are some on is =
    let back : n - period + period ≡ n = omega (arith, on.0) in
    let value : v ≡ nim_value c n =
    is ∙ ap (λ xs. slice_index xs (n - period)) are ∙ nim_values-at c n (n - period) (omega (arith, on.0))
    ∙ sym (on.1 (n - period) (omega arith)) ∙ ap (nim_value c) back in
    let next : n + 1 ≡ suc n = omega arith in
    ap₂ (λ xs x. xs ++ x ∷ []) are (value ∙ nim_value-eq c n) ∙ ap (nim_values c) (sym next)
