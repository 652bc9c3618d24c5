-- The heaps of a position that has a value have theirs.
use Rattle.std.proofs.Common.{◌≡◌, ℕ, zero, suc, ◌+◌, ◌<◌, length, get_or, true, false, ltb, if◌then◌else◌, List, [], ◌∷◌, Option, Some, None, Result, Ok, Err, refl, sym, arith}
use Rattle.std.proofs.lemmas.Bool.{false≢true, ltb-true}
use Rattle.std.specs.List.{All}
use Rattle.oct_code.specs.Code.{Code}
use Rattle.oct_mex.specs.NimValues.{nim_value}
use Rattle.oct_mex.specs.declared.period.SeenPeriod.{SeenPeriod}
use Rattle.oct_period.specs.Periods.{xor_onto, position_value_from}
use Rattle.oct_period.specs.declared.unknown.Unknown.{Unknown}
use Rattle.oct_period.proofs.HeapValues.{xor_ok}
use Rattle.oct_reach.specs.Reaching.{value_told, IsTold}

module _ (c : Code) (values : ℕ) where
  heap_told : (found : Option SeenPeriod) (n value : ℕ) → value_told c found values n ≡ Some value → IsTold found values n
  heap_told (Some seen) n value h none = absurd (false≢true (sym none))
  heap_told None n value h none = elim (ltb n values) as (λ b. ltb n values ≡ b → ◌≡◌ {A = Option ℕ} (if b then Some (nim_value c n) else None) (Some value) → n < values) [
    | true ↦ λ e _. ltb-true n values e
    | false ↦ λ _ k. cc
  ] refl h

  pub all_told : (found : Option SeenPeriod) (i : ℕ) (heaps : List ℕ) (whole : ℕ) → Ok whole ≡ position_value_from (value_told c found values) i heaps → All (IsTold found values) heaps
  all_told found i [] whole h k d low = absurd (omega arith)
  all_told found i (n ∷ heaps) whole h k d low =
      let value : ℕ → Option ℕ = value_told c found values in
      elim (value n) as (λ o. value n ≡ o → ◌≡◌ {A = Result ℕ Unknown} (Ok whole) (elim o [ None ↦ Err (record { index = i }) | Some v ↦ xor_onto v (position_value_from value (i + 1) heaps) ]) → IsTold found values (get_or (n ∷ heaps) k d)) [
        | None ↦ λ _ e. cc
        | Some v ↦ λ is e.
            let parts = xor_ok v whole (position_value_from value (i + 1) heaps) (sym e) in
            at_place v is (all_told found (i + 1) heaps parts.0 (sym parts.1)) k low
      ] refl h
    where
      at_place : (v : ℕ) → value_told c found values n ≡ Some v → All (IsTold found values) heaps → (k : ℕ) → k < suc (length heaps) → IsTold found values (get_or (n ∷ heaps) k d)
      at_place v is rest zero low = heap_told found n v is
      at_place v is rest (suc k) low = rest k d (omega arith)
