-- Sets of small numbers in the bits of words.
use Rattle.std.specs.Prelude.{◌≡◌, ℕ, ◌-◌, ◌^◌, ◌<◌, ◌⊎◌, ◌↔◌, List, slice_index, bit_xor}
use Rattle.std.specs.Int.{bit_at}

-- v is in the set
abbrev pub Has : ℕ → ℕ → Type 0
Has set v = bit_at set v ≡ 1

-- the numbers that P holds of are in the set besides
abbrev pub Adds : ℕ → ℕ → (ℕ → Type 0) → Type 0
Adds old new P = (v : ℕ) → Has new v ↔ (Has old v ⊎ P v)

-- v is made of a number of one of the sets that stand so far before a place, by the value that stands beside the offset
pub record IsMadeBehind (sets : List ℕ) (place : ℕ) (offsets values : List ℕ) (end v : ℕ) : Type 0 where
  pub at : ℕ
  pub within : at < end
  pub has : Has (slice_index sets (place - slice_index offsets at)) (bit_xor v (slice_index values at))

-- the numbers of so many bits that P holds of are in the set besides
abbrev pub AddsSmall : ℕ → ℕ → ℕ → (ℕ → Type 0) → Type 0
AddsSmall digits old new P = (v : ℕ) → v < 2 ^ digits → Has new v ↔ (Has old v ⊎ P v)
