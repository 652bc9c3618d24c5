-- A period that one run of settled heaps between two equal windows shows.
use Rattle.std.specs.Prelude.{◌≡◌, ℕ, ◌+◌, ◌-◌, ◌%◌, ◌<◌, ◌≤◌, ◌⊎◌, true, false, List, length, slice_index}
use Rattle.std.specs.List.{Contains}
use Rattle.oct_code.specs.Code.{Code, len}
use Rattle.oct_mex.specs.Marks.{IsRareBy}
use Rattle.oct_mex.specs.NimValues.{nim_value, IsOptionValue}
use Rattle.oct_mex.specs.Periods.{IsPeriodicWithin}
use Rattle.oct_mex.specs.Rare.{is_rare, IsFit}
use Rattle.oct_mex.specs.declared.mask.Mask.{Mask}

-- some move leaves two heaps with this exclusive or, the smaller one no larger than `reach`
abbrev pub IsReached : Code → ℕ → ℕ → ℕ → Type 0
IsReached c reach n value = (o : IsOptionValue c (nim_value c) n value) × (o.a ≤ reach)

-- the heap is common, and each smaller value comes of a heap no larger than `reach` and another one
pub record IsSettled (c : Code) (mask : Mask) (reach n : ℕ) : Type 0 where
  pub common : is_rare mask n (nim_value c n) ≡ false
  pub reached : (u : ℕ) → u < nim_value c n → IsReached c reach n u

-- how many values before a heap tell its value
abbrev pub window : Code → ℕ → ℕ
window c reach = reach + len c

pub record IsRun (c : Code) (mask : Mask) (reach start period : ℕ) : Type 0 where
  pub fit : IsFit c mask
  pub some : 1 ≤ period
  pub even : mask.parity ≡ true → period % 2 ≡ 0
  pub room : window c reach < start
  -- each rare heap before it is no larger than `reach`
  pub common : (h : ℕ) → reach < h → h < start → is_rare mask h (nim_value c h) ≡ false
  -- one period of settled heaps
  pub settled : (n : ℕ) → start ≤ n → n < start + period → IsSettled c mask reach n
  -- the window before it is the window before its end
  pub windows : IsPeriodicWithin c (start - window c reach) period start

-- ---- in a list of the values of the small heaps and of the last ones

-- some move leaves two heaps whose values under g have this exclusive or, the smaller one no larger than `reach`, or one of them in the list
pub record IsNear (c : Code) (g : ℕ → ℕ) (n : ℕ) (heaps : List ℕ) (reach value : ℕ) : Type 0 where
  pub option : IsOptionValue c g n value
  pub near : (option.a ≤ reach) ⊎ (Contains heaps option.a ⊎ Contains heaps option.b)

-- each smaller number comes of such a move, and the number itself, if it is below the size, of none that leaves at most one heap or a heap of the list
pub record Settles (c : Code) (g : ℕ → ℕ) (n : ℕ) (heaps : List ℕ) (reach size value : ℕ) : Type 0 where
  pub reached : (u : ℕ) → u < value → IsNear c g n heaps reach u
  pub unlisted : value < size → (r : ℕ) → IsRareBy c g n heaps r value → ⊥

-- the list has the nim-values of the heaps up to `reach`, and behind them those of a window before the heap n
pub record IsHeld (c : Code) (reach n : ℕ) (held : List ℕ) : Type 0 where
  pub room : reach + window c reach < length held
  pub few : length held ≤ n
  pub small : (h : ℕ) → h ≤ reach → slice_index held h ≡ nim_value c h
  pub last : (h : ℕ) → h < n → n ≤ h + window c reach → slice_index held (h + length held - n) ≡ nim_value c h
