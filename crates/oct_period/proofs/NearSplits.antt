-- Under a period that holds, a split far out has the value of one a period nearer.
use Rattle.std.proofs.Common.{◌≡◌, ℕ, zero, suc, ◌+◌, ◌-◌, ◌/◌, ◌<◌, ◌≤◌, min, inl, inr, refl, sym, ap, ap₂, ◌∙◌, arith, bit_xor}
use Rattle.std.proofs.lemmas.Bool.{cases_lt}
use Rattle.oct_code.specs.Code.{Code}
use Rattle.oct_mex.specs.NimValues.{nim_value}
use Rattle.oct_mex.specs.Periods.{IsPeriodicFrom}
use Rattle.oct_period.specs.Moving.{split_value, AreNear, IsNearSplit}

-- each split is below this end itself
pub all_near : (c : Code) (rest : ℕ) → AreNear c rest (rest / 2 + 1)
all_near c rest a some low = (a, record { some = some; below = omega arith; same = refl })

module _ (c : Code) (start period rest : ℕ) (holds : IsPeriodicFrom c start period) (some_start : 1 ≤ start) (some_period : 1 ≤ period) where
  one_nearer : (a : ℕ) → start + period ≤ a → a ≤ rest / 2 → split_value c rest (a - period) ≡ split_value c rest a
  one_nearer a far low =
      let back : a - period + period ≡ a = omega arith in
      let other : rest - (a - period) ≡ rest - a + period = omega arith in
      ap₂ bit_xor (sym (holds (a - period) (omega arith)) ∙ ap (nim_value c) back) (ap (nim_value c) other ∙ holds (rest - a) (omega arith))

  near_within : (depth a : ℕ) → a < depth → 1 ≤ a → a ≤ rest / 2 → (near : ℕ) × IsNearSplit c rest (min (rest / 2 + 1) (start + period)) a near
  near_within zero a deep some low = absurd (omega arith)
  near_within (suc depth) a deep some low = elim (cases_lt a (start + period)) [
    | inl here ↦ (a, record { some = some; below = omega arith; same = refl })
    | inr far ↦
        let nearer = near_within depth (a - period) (omega arith) (omega arith) (omega arith) in
        (nearer.0, record { some = nearer.1.some; below = nearer.1.below; same = nearer.1.same ∙ one_nearer a far low })
  ]

  pub period_near : AreNear c rest (min (rest / 2 + 1) (start + period))
  period_near a some low = near_within (suc a) a (omega arith) some low
