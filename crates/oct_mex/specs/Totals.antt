-- Tables of the nim-sums of pairs of heaps, by the totals of their beans.
use Rattle.std.specs.Prelude.{◌≡◌, ℕ, ◌+◌, ◌/◌, ◌<◌, ◌≤◌, ◌⊎◌, Bool, true, List, length, slice_index}
use Rattle.oct_code.specs.Code.{Code}
use Rattle.oct_mex.specs.Marks.{AddsMarks, IsMarked, IsOneHeapBy, IsOptionBy, IsPairBy, IsPairValue}
use Rattle.oct_mex.specs.NimValues.{IsOptionValue}
use Rattle.oct_mex.specs.Rare.{is_rare}
use Rattle.oct_mex.specs.declared.mask.Mask.{Mask}
use Rattle.oct_mex.specs.declared.totals.Table.{Table}

-- v is the exclusive or of the values of two heaps of so many beans that are not empty
abbrev pub IsSum : List ℕ → ℕ → ℕ → Type 0
IsSum values total v = IsPairValue (slice_index values) total 1 (total / 2 + 1) v

-- under a mask that is not empty, one of two heaps is rare
abbrev pub HasRare : Mask → List ℕ → ℕ → ℕ → Type 0
HasRare mask values a b = (0 < mask.bits) × ((is_rare mask a (slice_index values a) ≡ true) ⊎ (is_rare mask b (slice_index values b) ≡ true))

-- only nim-sums of the total are marked, and those of the pairs with a rare heap, or whose smaller heap is below the end; none is among the misses
pub record Knows (mask : Mask) (values : List ℕ) (total end : ℕ) (marks misses : List Bool) : Type 0 where
  pub some : 1 ≤ end
  pub held : total ≤ length values
  pub sound : (v : ℕ) → v < length marks → IsMarked marks v → IsSum values total v
  pub rare : (v : ℕ) → v < length marks → (o : IsSum values total v) → HasRare mask values o.a o.b → IsMarked marks v
  pub pairs : (v : ℕ) → v < length marks → IsPairValue (slice_index values) total 1 end v → IsMarked marks v
  pub missed : (v : ℕ) → v < length misses → IsMarked misses v → IsSum values total v → ⊥

abbrev pub IsTable : {A : Type 0} → Mask → List ℕ → Table A → Type 0
IsTable mask values table = Knows mask values table.total table.end table.marks.items table.misses.items

-- a table has marks for so many values
pub record IsLong {A : Type 0} (size : ℕ) (table : Table A) : Type 0 where
  pub marks : length table.marks.items ≡ size
  pub misses : length table.misses.items ≡ size

-- the nim-sums that a table of the total marks are marked besides
pub record AddsSums (mask : Mask) (values : List ℕ) (total end : ℕ) (old new : List Bool) : Type 0 where
  pub far : ℕ
  pub marks : List Bool
  pub misses : List Bool
  pub wide : end ≤ far
  pub long : length marks ≡ length old
  pub knows : Knows mask values total far marks misses
  pub adds : AddsMarks old new (IsMarked marks)

-- marks stay, and others are of options; those of the options by removals below `upto` are there that leave two heaps, one rare or the smaller one below the end
pub record AddsTotals (c : Code) (values : List ℕ) (n : ℕ) (mask : Mask) (end upto : ℕ) (old new : List Bool) : Type 0 where
  pub size : length new ≡ length old
  pub kept : (v : ℕ) → v < length old → IsMarked old v → IsMarked new v
  pub sound : (v : ℕ) → v < length old → IsMarked new v → IsMarked old v ⊎ IsOptionValue c (slice_index values) n v
  pub rare : (v r : ℕ) → v < length old → r < upto → (o : IsOptionBy c (slice_index values) n r v) → 1 ≤ o.a → HasRare mask values o.a o.b → IsMarked new v
  pub pairs : (v r : ℕ) → v < length old → r < upto → IsPairBy c (slice_index values) n 1 end r v → IsMarked new v

-- only values of options are marked, and those of the options of at most one heap, with a rare heap, or whose smaller heap is below the end
pub record HasTotals (c : Code) (values : List ℕ) (n : ℕ) (mask : Mask) (end : ℕ) (marks : List Bool) : Type 0 where
  pub sound : (v : ℕ) → v < length marks → IsMarked marks v → IsOptionValue c (slice_index values) n v
  pub one : (v r : ℕ) → v < length marks → IsOneHeapBy c (slice_index values) n r v → IsMarked marks v
  pub rare : (v r : ℕ) → v < length marks → (o : IsOptionBy c (slice_index values) n r v) → 1 ≤ o.a → HasRare mask values o.a o.b → IsMarked marks v
  pub pairs : (v r : ℕ) → v < length marks → IsPairBy c (slice_index values) n 1 end r v → IsMarked marks v
