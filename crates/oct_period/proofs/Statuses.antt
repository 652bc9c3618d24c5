-- What the status of a claim says of the nim-values, and that it stays with more blocks.
use Rattle.std.proofs.Common.{◌≡◌, ℕ, zero, suc, ◌+◌, ◌-◌, ◌≤◌, true, false, eqb, leb, List, Option, Some, None, inl, inr, ◌≢◌, refl, sym, ap, ◌∙◌, subst, arith}
use Rattle.std.proofs.lemmas.Bool.{cases_eq, eqb-true, eqb-false, eq-eqb, leb-true, le-leb}
use Rattle.std.specs.Option.{unwrap_or}
use Rattle.oct_code.specs.Code.{Code}
use Rattle.oct_mex.specs.NimValues.{nim_value}
use Rattle.oct_mex.specs.Periods.{IsPeriodicFrom, IsPeriodicWithin, IsFirstBreak}
use Rattle.oct_mex.proofs.Periods.{seen_periods_hold}
use Rattle.oct_ops.specs.Operation.{Block, Period}
use Rattle.oct_verify.proofs.KnownLaws.{known_grows}
use Rattle.oct_verify.specs.Known.{known}
use Rattle.oct_period.specs.Laws.{ProvedHolds, RefutedIsFirstBreak, SettledClaimsStay}
use Rattle.oct_period.specs.declared.status.PeriodStatus.{PeriodStatus}
use Rattle.oct_period.specs.Periods.{first_break, needs, status_at, period_status}
use Rattle.oct_period.specs.declared.status.PeriodStatus.TheVariants.{Proved, Refuted, Pending}

-- a break is found again among more places
break-stays : (c : Code) (period count more n at : ℕ) → count ≤ more → first_break c period count n ≡ Some at → first_break c period more n ≡ Some at
break-stays c period zero more n at less h = cc
break-stays c period (suc count) zero n at less h = absurd (omega arith)
break-stays c period (suc count) (suc more) n at less h =
    elim (eqb (nim_value c (n + period)) (nim_value c n)) as (λ t. elim t [ true ↦ first_break c period count (n + 1) | false ↦ Some n ] ≡ Some at → elim t [ true ↦ first_break c period more (n + 1) | false ↦ Some n ] ≡ Some at) [
      | true ↦ λ k. break-stays c period count more (n + 1) at (omega arith) k
      | false ↦ λ k. k
    ] h

-- where no break is found, the values come again
pub unbroken-seen : (c : Code) (period count n : ℕ) → first_break c period count n ≡ None → IsPeriodicWithin c n period (n + count)
unbroken-seen c period zero n h i low high = absurd (omega arith)
unbroken-seen c period (suc count) n h i low high =
    elim (eqb (nim_value c (n + period)) (nim_value c n)) as (λ t. eqb (nim_value c (n + period)) (nim_value c n) ≡ t → ◌≡◌ {A = Option ℕ} (elim t [ true ↦ first_break c period count (n + 1) | false ↦ Some n ]) None → nim_value c (i + period) ≡ nim_value c i) [
      | true ↦ λ e k. elim (cases_eq i n) [
        | inl here ↦ subst (λ j. nim_value c (j + period) ≡ nim_value c j) (sym here) (eqb-true (nim_value c (n + period)) (nim_value c n) e)
        | inr later ↦ unbroken-seen c period count (n + 1) k i (omega arith) (omega arith)
      ]
      | false ↦ λ e k. cc
    ] refl h

-- and where they do, none is found
pub unbroken : (c : Code) (period count n : ℕ) → IsPeriodicWithin c n period (n + count) → first_break c period count n ≡ None
unbroken c period zero n p = refl
unbroken c period (suc count) n p =
    subst (λ t. elim t [ true ↦ first_break c period count (n + 1) | false ↦ Some n ] ≡ None) (sym (eq-eqb (nim_value c (n + period)) (nim_value c n) (p n (omega arith) (omega arith))))
    (unbroken c period count (n + 1) (λ i low high. p i (omega arith) (omega arith)))

pub never-broken : (c : Code) (period count n : ℕ) → IsPeriodicFrom c n period → first_break c period count n ≡ None
never-broken c period count n p = unbroken c period count n (λ i low high. p i low)

breaks : ℕ → Period → Option ℕ
breaks k p = first_break p.code p.period (k - (p.start + p.period)) p.start

-- a claim that enough values bear out holds for ever
holds : (k : ℕ) (p : Period) → 1 ≤ p.start → needs p ≤ k → first_break p.code p.period (k - (p.start + p.period)) p.start ≡ None → IsPeriodicFrom p.code p.start p.period
holds k p some enough none = seen_periods_hold p.code p.start p.period some (λ i low high.
    unbroken-seen p.code p.period (k - (p.start + p.period)) p.start none i low (omega arith))

period_status-stays : (blocks more : List Block) → known blocks ≤ known more → (p : Period) → 1 ≤ p.start → ((n : ℕ) → period_status blocks p ≢ Pending n) → period_status more p ≡ period_status blocks p
period_status-stays blocks more grows p some settled =
    let k = known blocks in
    let l = known more in
    elim (first_break p.code p.period (k - (p.start + p.period)) p.start) as (λ x. first_break p.code p.period (k - (p.start + p.period)) p.start ≡ x
    → ((n : ℕ) → status_at k p x ≡ Pending n → ⊥) → period_status more p ≡ status_at k p x) [
      | Some n ↦ λ e ne. ap (status_at l p) (break-stays p.code p.period (k - (p.start + p.period)) (l - (p.start + p.period)) p.start n (omega arith) e)
      | None ↦ λ e ne. elim (leb (needs p) k) as (λ t. leb (needs p) k ≡ t
          → ((n : ℕ) → elim t [ true ↦ Proved | false ↦ Pending (needs p) ] ≡ Pending n → ⊥) → period_status more p ≡ elim t [ true ↦ Proved | false ↦ Pending (needs p) ]) [
            | true ↦ λ enough pending.
                let least : needs p ≤ k = leb-true (needs p) k enough in
                let for_ever = holds k p some least e in
                ap (status_at l p) (never-broken p.code p.period (l - (p.start + p.period)) p.start for_ever)
                ∙ ap (λ t. elim t [ true ↦ Proved | false ↦ Pending (needs p) ]) (le-leb (needs p) l (omega arith))
            | false ↦ λ few pending. absurd (pending (needs p) refl)
          ] refl ne
    ] refl settled

pub settled_claims_stay : SettledClaimsStay
settled_claims_stay some all p among later settled = period_status-stays some all (known_grows some all among) p later settled

-- ---- what a status says

-- enough values bear a proved claim out
pub enough_seen : (k : ℕ) (p : Period) (x : Option ℕ) → status_at k p x ≡ Proved → (x ≡ None) × (needs p ≤ k)
enough_seen k p (Some n) h = cc
enough_seen k p None h = elim (leb (needs p) k) as (λ t. leb (needs p) k ≡ t → ◌≡◌ {A = PeriodStatus} (elim t [ true ↦ Proved | false ↦ Pending (needs p) ]) Proved → ◌≡◌ {A = Option ℕ} None None × (needs p ≤ k)) [
  | true ↦ λ e _. (refl, leb-true (needs p) k e)
  | false ↦ λ _ is. cc
] refl h

pub proved_holds : ProvedHolds
proved_holds blocks p later h =
    let seen = enough_seen (known blocks) p (first_break p.code p.period (known blocks - (p.start + p.period)) p.start) h in
    holds (known blocks) p later seen.1 seen.0

pub proved_needs : (blocks : List Block) (p : Period) → period_status blocks p ≡ Proved → needs p ≤ known blocks
proved_needs blocks p h = let seen = enough_seen (known blocks) p (first_break p.code p.period (known blocks - (p.start + p.period)) p.start) h in seen.1

break_is : (c : Code) (period count n at : ℕ) → first_break c period count n ≡ Some at → IsFirstBreak c n period at
break_is c period zero n at h = cc
break_is c period (suc count) n at h =
    elim (eqb (nim_value c (n + period)) (nim_value c n)) as (λ t. eqb (nim_value c (n + period)) (nim_value c n) ≡ t → ◌≡◌ {A = Option ℕ} (elim t [ true ↦ first_break c period count (n + 1) | false ↦ Some n ]) (Some at) → IsFirstBreak c n period at) [
      | true ↦ λ e k.
          let later = break_is c period count (n + 1) at k in
          record {
            behind = omega (arith, later.behind);
            breaks = later.breaks;
            before = λ i low high. elim (cases_eq i n) [
              | inl here ↦ subst (λ j. nim_value c (j + period) ≡ nim_value c j) (sym here) (eqb-true (nim_value c (n + period)) (nim_value c n) e)
              | inr other ↦ later.before i (omega arith) high
            ];
          }
      | false ↦ λ e k.
          let here : n ≡ at = ap (λ o. unwrap_or o n) k in
          record {
            behind = omega (arith, here);
            breaks = subst (λ j. nim_value c (j + period) ≢ nim_value c j) here (eqb-false (nim_value c (n + period)) (nim_value c n) e);
            before = λ i low high. absurd (omega (arith, here, low, high));
          }
    ] refl h

refuted_by : (k : ℕ) (p : Period) (x : Option ℕ) (at : ℕ) → status_at k p x ≡ Refuted at → x ≡ Some at
refuted_by k p (Some n) at h = ap (λ s. place s n) h
  where
    place : PeriodStatus → ℕ → Option ℕ
    place Proved n = Some n
    place (Refuted m) n = Some m
    place (Pending m) n = Some n
refuted_by k p None at h = elim (leb (needs p) k) as (λ t. ◌≡◌ {A = PeriodStatus} (elim t [ true ↦ Proved | false ↦ Pending (needs p) ]) (Refuted at) → ◌≡◌ {A = Option ℕ} None (Some at)) [
  | true ↦ λ is. cc
  | false ↦ λ is. cc
] h

pub refuted_is_first_break : RefutedIsFirstBreak
refuted_is_first_break blocks p at h = break_is p.code p.period (known blocks - (p.start + p.period)) p.start at (refuted_by (known blocks) p (first_break p.code p.period (known blocks - (p.start + p.period)) p.start) at h)
