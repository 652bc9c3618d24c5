-- The winner by the value of a position is the winner by the moves.
use Rattle.std.proofs.Common.{◌≡◌, ℕ, ◌↔◌, Bool, true, false, List, Result, Ok, Err, IsOk, IfOk, refl, sym, ap, ◌∙◌, subst}
use Rattle.oct_code.specs.Code.{Code}
use Rattle.oct_mex.specs.NimValues.{position_value as nim_sum}
use Rattle.oct_period.specs.Outcomes.{winner, outcome_by, outcome_by_value, IsOutcomeOf}
use Rattle.oct_period.specs.Winning.{wins}
use Rattle.oct_period.specs.declared.unknown.Unknown.{Unknown}
use Rattle.oct_period.specs.declared.winner.Outcome.{Outcome}
use Rattle.oct_period.specs.declared.winner.Outcome.TheVariants as who
use Rattle.oct_period.proofs.Play.{by_value}

right_value : (c : Code) (heaps : List ℕ) (r : Result ℕ Unknown) → IfOk r (λ v. v ≡ nim_sum c heaps) → (value : ℕ) → r ≡ Ok value → value ≡ nim_sum c heaps
right_value c heaps (Ok v) right value is = let same : v ≡ value = cc in sym same ∙ right
right_value c heaps (Err u) right value is = cc

pub told_by_value : (c : Code) (heaps : List ℕ) (r : Result ℕ Unknown) → IfOk r (λ v. v ≡ nim_sum c heaps) → outcome_by_value r ≡ outcome_by c heaps r
told_by_value c heaps r right = sym (by_value c heaps r (right_value c heaps r right))

loses_if : (won : Bool) → (winner won ≡ who.NextLoses) ↔ (won ≡ false)
loses_if true = (λ h. cc, λ h. cc)
loses_if false = (λ h. refl, λ h. refl)

wins_if : (won : Bool) → (winner won ≡ who.NextWins) ↔ (won ≡ true)
wins_if true = (λ h. refl, λ h. refl)
wins_if false = (λ h. cc, λ h. cc)

module _ (c : Code) (heaps : List ℕ) where
  loses_by : (r : Result ℕ Unknown) → (outcome_by c heaps r ≡ who.NextLoses) ↔ (IsOk r × (wins c heaps ≡ false))
  loses_by (Ok v) = let w = loses_if (wins c heaps) in (λ h. (refl, w.0 h), λ h. w.1 h.1)
  loses_by (Err u) = (λ h. cc, λ h. cc h.0)

  wins_by : (r : Result ℕ Unknown) → (outcome_by c heaps r ≡ who.NextWins) ↔ (IsOk r × (wins c heaps ≡ true))
  wins_by (Ok v) = let w = wins_if (wins c heaps) in (λ h. (refl, w.0 h), λ h. w.1 h.1)
  wins_by (Err u) = (λ h. cc, λ h. cc h.0)

  won_known : (won : Bool) (v index : ℕ) → (winner won ≡ who.Unknown index) ↔ (◌≡◌ {A = Result ℕ Unknown} (Ok v) (Err (record { index = index })))
  won_known true v index = (λ h. cc, λ h. cc)
  won_known false v index = (λ h. cc, λ h. cc)

  unknown_by : (r : Result ℕ Unknown) (index : ℕ) → (outcome_by c heaps r ≡ who.Unknown index) ↔ (r ≡ Err (record { index = index }))
  unknown_by (Ok v) index = won_known (wins c heaps) v index
  unknown_by (Err u) index = (λ h. let same : u.index ≡ index = cc in ap (λ i. Err (record { index = i })) same, λ h. let same : u.index ≡ index = ap (λ (r : Result ℕ Unknown). index_of r) h in ap who.Unknown same)
    where
      index_of : Result ℕ Unknown → ℕ
      index_of (Ok v) = index
      index_of (Err u) = u.index

  pub says : (o : Outcome) (r : Result ℕ Unknown) → o ≡ outcome_by c heaps r → IsOutcomeOf c heaps r o
  says o r is = subst (IsOutcomeOf c heaps r) (sym is) (record { loses = loses_by r; wins = wins_by r; unknown = unknown_by r })
