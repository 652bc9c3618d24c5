-- The period that the nim-values show is the one that is found.
use Rattle.std.proofs.Common.{◌≡◌, ℕ, ◌+◌, ◌*◌, ◌-◌, ◌<◌, ◌≤◌, Bool, false, List, Some, None, inl, inr, refl, sym, ap, subst, subst₂, arith}
use Rattle.std.proofs.lemmas.Bool.{cases_Bool, cases_lt, ne_eqb, le-ltb}
use Rattle.oct_code.specs.Code.{Code, len}
use Rattle.oct_code.specs.declared.limits.TheConstants.{LIMIT}
use Rattle.oct_mex.specs.Periods.{IsPeriodicFrom, IsShown, NoneIsShown, NoneIsShownBefore}
use Rattle.oct_ops.specs.Faults.{period_fault}
use Rattle.oct_ops.specs.Operation.{Block, Period, repeating}
use Rattle.oct_verify.specs.Known.{known}
use Rattle.oct_period.specs.Found.{claims_with, found_period, IsProvable, IsLeastPeriod}
use Rattle.oct_period.specs.Periods.{is_proved, period_status}
use Rattle.oct_period.proofs.Finding.{find-each_none, find-each_some, find-lists_none, find-lists_some}
use Rattle.oct_period.proofs.FirstBreaks.{faultless_later, faultless_period, is_proof}
use Rattle.oct_period.proofs.HeapValues.{proved_so}
use Rattle.oct_period.proofs.Statuses.{never-broken, proved_holds, proved_needs}

pub is_faultless : (c : Code) (start period : ℕ) → 1 ≤ start → 1 ≤ period → start ≤ LIMIT → period ≤ LIMIT → period_fault (repeating c start period) ≡ None
is_faultless c start period later some near short =
    rw (ne_eqb start 0 (omega arith), ne_eqb period 0 (omega arith), le-ltb LIMIT start near, le-ltb LIMIT period short) refl

module _ (c : Code) (blocks : List Block) where
  abbrev passes : Period → Bool
  passes p = is_proved (period_status blocks p)

  -- what is shown is proved
  pub shown_provable : (start period : ℕ) → known blocks ≤ LIMIT → IsShown c (known blocks) start period → IsPeriodicFrom c start period → IsProvable c blocks (repeating c start period)
  shown_provable start period within shown holds = record {
    faultless = is_faultless c start period shown.first shown.some (omega (arith, shown.enough)) (omega (arith, shown.enough));
    proved = record {
      game = refl;
      proved = is_proof blocks (repeating c start period) (known blocks) refl (sym (never-broken c period (known blocks - (start + period)) start holds)) shown.enough;
    };
  }

  -- and what is proved is shown
  pub provable_shown : (p : Period) → IsProvable c blocks p → IsShown c (known blocks) p.start p.period
  provable_shown p provable =
      let later = faultless_later p provable.faultless in
      let holds = proved_holds blocks p later provable.proved.proved in
      let enough = proved_needs blocks p provable.proved.proved in
      subst (λ d. IsShown d (known blocks) p.start p.period) provable.proved.game
      (record { first = later; some = faultless_period p provable.faultless; enough = enough; seen = λ n low near. holds n low })

  -- the least of the shown ones is the least of the proved ones
  pub shown_least : (start period : ℕ) → known blocks ≤ LIMIT → IsShown c (known blocks) start period → IsPeriodicFrom c start period
      → NoneIsShown c (known blocks) period → NoneIsShownBefore c (known blocks) start period → IsLeastPeriod c blocks (repeating c start period)
  shown_least start period within shown holds least earliest = record {
    provable = shown_provable start period within shown holds;
    least = λ q provable. elim (cases_lt q.period period) [
      | inl less ↦ absurd (least q.start q.period less (provable_shown q provable))
      | inr more ↦ more
    ];
    earliest = λ q provable same. elim (cases_lt q.start start) [
      | inl less ↦ absurd (earliest q.start less (subst (IsShown c (known blocks) q.start) same (provable_shown q provable)))
      | inr more ↦ more
    ];
  }

  -- ---- the search through the claims

  fails_unless : (start period : ℕ) → known blocks ≤ LIMIT → 1 ≤ start → start < 1 + known blocks → 1 ≤ period → period < 1 + known blocks
      → (IsProvable c blocks (repeating c start period) → ⊥) → passes (repeating c start period) ≡ false
  fails_unless start period within later near some short none = elim (cases_Bool (passes (repeating c start period))) [
    | inl holds ↦ absurd (none (record {
      faultless = is_faultless c start period later some (omega arith) (omega arith);
      proved = record { game = refl; proved = proved_so (period_status blocks (repeating c start period)) holds };
    }))
    | inr fails ↦ fails
  ]

  pub found_is : (start period : ℕ) → known blocks ≤ LIMIT → start ≤ known blocks → period ≤ known blocks → IsLeastPeriod c blocks (repeating c start period)
      → found_period c blocks ≡ Some (repeating c start period)
  found_is start period within near short found =
      let later : 1 ≤ start = faultless_later (repeating c start period) found.provable.faultless in
      let some : 1 ≤ period = faultless_period (repeating c start period) found.provable.faultless in
      find-lists_some passes (claims_with c (known blocks)) 1 (known blocks) period (repeating c start period) some (omega arith)
      (find-each_some passes (λ s. repeating c s period) 1 (known blocks) start later (omega arith) (ap is_proved found.provable.proved.proved)
      (λ s low less. fails_unless s period within low (omega arith) some (omega arith) (λ other. let most = found.earliest (repeating c s period) other refl in absurd (omega arith))))
      (λ q low less. find-each_none passes (λ s. repeating c s q) 1 (known blocks)
      (λ s from to. fails_unless s q within from to low (omega arith) (λ other. let most = found.least (repeating c s q) other in absurd (omega arith))))

  pub found_is_none : known blocks ≤ LIMIT → ((p : Period) → IsProvable c blocks p → ⊥) → found_period c blocks ≡ None
  found_is_none within none =
      find-lists_none passes (claims_with c (known blocks)) 1 (known blocks)
      (λ q low less. find-each_none passes (λ s. repeating c s q) 1 (known blocks)
      (λ s from to. fails_unless s q within from to low less (none (repeating c s q))))

  -- what a search of the known nim-values says
  pub record IsSeen (d : Code) (k start period : ℕ) : Type 0 where
    pub game : d ≡ c
    pub count : k ≡ known blocks
    pub within : k ≤ LIMIT
    pub first : 1 ≤ start
    pub some : 1 ≤ period
    pub enough : 2 * start + 2 * period + len d ≤ k
    pub earliest : NoneIsShownBefore d k start period
    pub least : NoneIsShown d k period
    pub holds : IsPeriodicFrom d start period

  pub seen_least : (d : Code) (k start period : ℕ) → IsSeen d k start period → IsLeastPeriod c blocks (repeating d start period)
  seen_least d k start period seen =
      let holds : IsPeriodicFrom c start period = subst (λ e. IsPeriodicFrom e start period) seen.game seen.holds in
      let shown : IsShown d k start period = record { first = seen.first; some = seen.some; enough = seen.enough; seen = λ n low near. seen.holds n low } in
      subst (λ e. IsLeastPeriod c blocks (repeating e start period)) (sym seen.game)
      (shown_least start period (omega (arith, seen.count, seen.within)) (subst₂ (λ e n. IsShown e n start period) seen.game seen.count shown) holds
      (subst₂ (λ e n. NoneIsShown e n period) seen.game seen.count seen.least) (subst₂ (λ e n. NoneIsShownBefore e n start period) seen.game seen.count seen.earliest))

  pub seen_found : (d : Code) (k start period : ℕ) → IsSeen d k start period → found_period c blocks ≡ Some (repeating d start period)
  seen_found d k start period seen =
      let found = seen_least d k start period seen in
      subst (λ e. found_period c blocks ≡ Some (repeating e start period)) (sym seen.game)
      (found_is start period (omega (arith, seen.count, seen.within)) (omega (arith, seen.count, seen.enough)) (omega (arith, seen.count, seen.enough))
      (subst (λ e. IsLeastPeriod c blocks (repeating e start period)) seen.game found))

  pub none_provable : (d : Code) (k : ℕ) → d ≡ c → k ≡ known blocks → NoneIsShown d k k → (p : Period) → IsProvable c blocks p → ⊥
  none_provable d k game count none p provable =
      let shown = provable_shown p provable in
      subst₂ (λ e n. NoneIsShown e n n) game count none p.start p.period (omega (arith, shown.first, shown.enough)) shown
