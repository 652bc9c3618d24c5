-- A further heap is compared.
use Rattle.std.proofs.Common.{◌≡◌, ◌≢◌, ℕ, ◌+◌, ◌-◌, ap, sym, ◌∙◌, inl, inr, arith}
use Rattle.std.proofs.lemmas.Bool.{cases_lt}
use Rattle.oct_code.specs.Code.{Code}
use Rattle.oct_mex.specs.NimValues.{nim_value}
use Rattle.oct_mex.specs.Periods.{IsPeriodicWithin}

module _ (c : Code) (period heap value later : ℕ) (first : value ≡ nim_value c heap) (second : later ≡ nim_value c (heap + period)) where
  -- its value comes again
  pub again_more : (start next : ℕ) → next ≡ heap + 1 → value ≡ later → IsPeriodicWithin c start period heap → IsPeriodicWithin c start period next
  again_more start next is same again n low near = elim (cases_lt n heap) [
    | inl below ↦ again n low below
    | inr above ↦
        let here : n ≡ heap = omega arith in
        ap (λ m. nim_value c (m + period)) here ∙ sym second ∙ sym same ∙ first ∙ ap (nim_value c) (sym here)
  ]

  -- it does not
  pub breaks : (next : ℕ) → next ≡ heap + 1 → value ≢ later → nim_value c (next - 1 + period) ≢ nim_value c (next - 1)
  breaks next is differ same =
      let here : next - 1 ≡ heap = omega arith in
      differ (first ∙ ap (nim_value c) (sym here) ∙ sym same ∙ ap (λ m. nim_value c (m + period)) here ∙ sym second)
