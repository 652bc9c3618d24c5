-- A window that begins behind the first values of a game.
use Rattle.std.proofs.Common.{◌≡◌, ℕ, ◌+◌, ◌-◌, ◌<◌, ◌≤◌, false, List, length, slice_index, inl, inr, ap, ◌∙◌, arith}
use Rattle.std.proofs.lemmas.Bool.{cases_Bool}
use Rattle.std.specs.List.{Contains}
use Rattle.oct_code.specs.Code.{Code}
use Rattle.oct_mex.specs.NimValues.{nim_value, nim_values}
use Rattle.oct_mex.specs.Rare.{is_rare, ListsRare}
use Rattle.oct_mex.specs.Windows.{IsHeld, window}
use Rattle.oct_mex.specs.declared.mask.Mask.{Mask}
use Rattle.oct_mex.proofs.NimValues.{nim_values-length}
use Rattle.oct_mex.proofs.Pushed.{value_at}

-- the first values are those of the small heaps and of the last ones
pub held_first : (c : Code) (reach n : ℕ) (values : List ℕ) → values ≡ nim_values c n → reach + window c reach < n → IsHeld c reach n values
held_first c reach n values are room =
    let size : length values ≡ n = ap length are ∙ nim_values-length c n in
    record {
      room = omega arith;
      few = omega arith;
      small = λ h low. value_at c n h values are (omega arith);
      last = λ h less near. ap (slice_index values) (let at : h + length values - n ≡ h = omega arith in at) ∙ value_at c n h values are less;
    }

-- a heap that is larger than all listed ones is common
pub common_first : (c : Code) (mask : Mask) (reach n : ℕ) (values heaps : List ℕ) → values ≡ nim_values c n → 0 < mask.bits → ListsRare mask values n heaps
    → ((h : ℕ) → Contains heaps h → h ≤ reach) → (h : ℕ) → reach < h → h < n → is_rare mask h (nim_value c h) ≡ false
common_first c mask reach n values heaps are some listed few h far low = elim (cases_Bool (is_rare mask h (nim_value c h))) [
  | inl rare ↦
      let most = few h (listed some h (omega arith) low (ap (is_rare mask h) (value_at c n h values are low) ∙ rare)) in
      absurd (omega arith)
  | inr common ↦ common
]

pub rare_first : (mask : Mask) (values heaps : List ℕ) (n end : ℕ) → end ≤ n → ListsRare mask values n heaps → ListsRare mask values end heaps
rare_first mask values heaps n end few listed some a low high rare = listed some a low (omega arith) rare
