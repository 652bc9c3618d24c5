-- Where a watch has its mark.
use Rattle.std.proofs.Common.{◌≡◌, ℕ, suc, ◌+◌, ◌-◌, ◌*◌, ◌^◌, ◌<◌, ◌≤◌, if◌then◌else◌, inl, inr, ap, sym, subst, ◌∙◌, arith, pow_mono, mul-le-mul_left}
use Rattle.std.proofs.Math.Nat.{pow-suc, mul_assoc}
use Rattle.std.proofs.lemmas.Bool.{cases_lt, le-ltb, lt-ltb}
use Rattle.oct_code.specs.Code.{Code}
use Rattle.oct_mex.specs.NimValues.{nim_value}
use Rattle.oct_mex.specs.Periods.{IsPeriodicWithin}
use Rattle.oct_mex.specs.Windows.{window}
use Rattle.oct_window.specs.Seeking.{MarkedPeriodsAreSeen, NoneIsSeen}
use Rattle.oct_window.specs.Watched.{IsMarkAt, mark_after, MarksAreOne}
use Rattle.oct_window.specs.Windows.{reach_behind}

-- at the beginning
pub mark_begins : (n : ℕ) → IsMarkAt n n n
mark_begins n = record { times = 0; doubled = omega arith; late = omega arith; behind = λ some. absurd (omega arith) }

-- one doubling more
twice : (first times : ℕ) → 2 * (first * 2 ^ times) ≡ first * 2 ^ (times + 1)
twice first times =
    let next : 2 ^ (times + 1) ≡ 2 ^ times * 2 = ap (λ m. 2 ^ m) (let e : times + 1 ≡ suc times = omega arith in e) ∙ pow-suc 2 times in
    omega (arith, mul_assoc first (2 ^ times) 2) ∙ ap (λ m. first * m) (sym next)

-- by one value more
pub mark_goes_on : (first old new count next : ℕ) → 1 ≤ old → old ≤ count → count ≤ 2 * old → new ≡ mark_after old count → next ≡ count + 1 → IsMarkAt first old count → IsMarkAt first new next
mark_goes_on first old new count next some passed fresh is one marked = elim (cases_lt count (2 * old)) [
  | inl below ↦
      let same : new ≡ old = is ∙ ap (λ b. if b then old else count) (lt-ltb count (2 * old) below) in
      record { times = marked.times; doubled = same ∙ marked.doubled; late = omega arith; behind = λ h. omega arith }
  | inr above ↦
      let moved : new ≡ count = is ∙ ap (λ b. if b then old else count) (le-ltb count (2 * old) above) in
      record {
        times = marked.times + 1;
        doubled = let both : new ≡ 2 * old = omega arith in both ∙ ap (λ m. 2 * m) marked.doubled ∙ twice first marked.times;
        late = omega arith;
        behind = λ h. omega arith;
      }
]

-- of two marks the one that is doubled less often is no smaller
no_smaller : (first at other count times more : ℕ) → at ≡ first * 2 ^ times → other ≡ first * 2 ^ more → times < more → count ≤ 2 * at → (1 ≤ more → other < count) → at ≡ other
no_smaller first at other count times more is also less late behind =
    let double : 2 * at ≡ first * 2 ^ (times + 1) = ap (λ m. 2 * m) is ∙ twice first times in
    let grows : first * 2 ^ (times + 1) ≤ first * 2 ^ more = mul-le-mul_left {m = 2 ^ (times + 1)} {n = 2 ^ more} first (pow_mono {i = times + 1} {j = more} (omega arith)) in
    absurd (omega (arith, double, grows, behind (omega arith)))

pub marks_are_one : MarksAreOne
marks_are_one first at other count one two = elim (cases_lt one.times two.times) [
  | inl less ↦ no_smaller first at other count one.times two.times one.doubled two.doubled less one.late two.behind
  | inr more ↦ elim (cases_lt two.times one.times) [
    | inl less ↦ sym (no_smaller first other at count two.times one.times two.doubled one.doubled less two.late one.behind)
    | inr same ↦ one.doubled ∙ ap (λ n. first * 2 ^ n) (let e : one.times ≡ two.times = omega arith in e) ∙ sym two.doubled
  ]
]

-- what a watch has not seen, in the words of the search
pub none_is_seen : (c d : Code) (reach listed at count n : ℕ) → d ≡ c → reach ≡ reach_behind c listed → n ≡ count → IsMarkAt listed at n → at < n
    → ((m : ℕ) → at < m → m ≤ n → IsPeriodicWithin d (at - window d reach) (m - at) at → ⊥) → NoneIsSeen c listed count
none_is_seen c d reach listed at count n code far same marked behind none =
    let here : (m : ℕ) → at < m → m ≤ n → IsPeriodicWithin c (at - window c reach) (m - at) at → ⊥ =
    subst (λ k. (m : ℕ) → at < m → m ≤ n → IsPeriodicWithin k (at - window k reach) (m - at) at → ⊥) code none in
    let there : (m : ℕ) → at < m → m ≤ n → IsPeriodicWithin c (at - window c (reach_behind c listed)) (m - at) at → ⊥ =
    subst (λ r. (m : ℕ) → at < m → m ≤ n → IsPeriodicWithin c (at - window c r) (m - at) at → ⊥) far here in
    subst (NoneIsSeen c listed) same (record { at = at; marked = marked; behind = behind; none = there })

pub marked_periods_are_seen : MarkedPeriodsAreSeen
marked_periods_are_seen c listed at count start period mark some before ends holds none =
    let same : none.at ≡ at = marks_are_one listed none.at at count none.marked mark in
    none.none (none.at + period) (omega arith) (omega arith) (λ n high low. ap (λ p. nim_value c (n + p)) (let e : none.at + period - none.at ≡ period = omega arith in e) ∙ holds n (omega arith))
