-- The values of near options of a heap, as what a plan of steps makes of the values before it.
use Rattle.std.specs.Prelude.{◌≡◌, ℕ, ◌+◌, ◌-◌, ◌<◌, ◌≤◌, ◌⊎◌, ◌↔◌, IsTrue, false, true, List, length, slice_index, slice_index_or, bit_xor}
use Rattle.std.specs.List.{Contains}
use Rattle.bitsets.specs.Sets.{Has}
use Rattle.oct_code.specs.Code.{Code, len, allows}
use Rattle.oct_mex.specs.Marks.{heaps_left, IsRareBy}
use Rattle.oct_mex.specs.NimValues.{nim_value}
use Rattle.oct_mex.specs.Rare.{is_rare, IsFit}
use Rattle.oct_mex.specs.Windows.{IsNear}
use Rattle.oct_mex.specs.declared.mask.Mask.{Mask}
use Rattle.oct_sets.specs.declared.plan.Plan.{Plan}
use Rattle.oct_sets.specs.declared.plan.TheConstants.{BLOCK, LOW}
use Rattle.oct_sets.specs.declared.sorted.SmallHeap.{SmallHeap}
use Rattle.oct_sets.specs.declared.steps.Steps.{Steps}

-- ---- lists of steps

-- d stands among the offsets, and x at the same place among the values
pub record HasStepIn {A : Type 0} (s : Steps A) (d x : ℕ) : Type 0 where
  pub at : ℕ
  pub within : at < length s.offsets.items
  pub offset : slice_index s.offsets.items at ≡ d
  pub value : slice_index s.values.items at ≡ x

-- offsets from `low` to `high`, and beside each a value below `limit`
pub record IsShapedSteps {A : Type 0} (limit low high : ℕ) (s : Steps A) : Type 0 where
  pub beside : length s.values.items ≡ length s.offsets.items
  pub from : (k : ℕ) → k < length s.offsets.items → low ≤ slice_index s.offsets.items k
  pub to : (k : ℕ) → k < length s.offsets.items → slice_index s.offsets.items k ≤ high
  pub small : (k : ℕ) → k < length s.values.items → slice_index s.values.items k < limit

-- an offset below `back` is of one heap, as large as it; from there on, less `back`, it is of a heap and of its twin, which has
-- `apart` beans more
abbrev pub IsOffsetOf : ℕ → ℕ → ℕ → ℕ → Type 0
IsOffsetOf back apart offset heap = ((offset < back) × (heap ≡ offset)) ⊎ ((back ≤ offset) × ((heap + back ≡ offset) ⊎ (heap + back ≡ offset + apart)))

-- a move over a small heap: two heaps are left, one of them of an offset of the list that stands beside x
pub record IsStepOver {A : Type 0} (c : Code) (back apart : ℕ) (s : Steps A) (d x : ℕ) : Type 0 where
  pub removed : ℕ
  pub heap : ℕ
  pub behind : ℕ
  pub few : removed ≤ len c
  pub allowed : IsTrue (allows c removed 2)
  pub step : HasStepIn s behind x
  pub over : IsOffsetOf back apart behind heap
  pub offset : d ≡ removed + heap

-- the step is one of the plan
abbrev pub HasStep : {A : Type 0} → Code → Plan A → ℕ → ℕ → Type 0
HasStep c p d x = (IsStepOver c p.back p.apart p.far d x ⊎ IsStepOver c p.back p.apart p.low d x) ⊎ HasStepIn p.near d x

-- each offset is of heaps from the size of a block to `reach`, and beside each stands a value below `limit`
pub record IsShapedFar {A : Type 0} (limit reach back apart : ℕ) (s : Steps A) : Type 0 where
  pub steps : IsShapedSteps limit BLOCK (back + reach) s
  pub over : (k heap : ℕ) → k < length s.offsets.items → IsOffsetOf back apart (slice_index s.offsets.items k) heap → (BLOCK ≤ heap) × (heap ≤ reach)

-- no far heap is larger than `reach`, nor smaller than a block, no low one larger than `reach`, nor smaller than a group, no near
-- offset larger than `width`, each value below `limit`, and each offset of twins larger than one of a heap
pub record IsShapedPlan {A : Type 0} (limit reach width : ℕ) (p : Plan A) : Type 0 where
  pub far : IsShapedFar limit reach p.back p.apart p.far
  pub low : IsShapedSteps limit LOW reach p.low
  pub near : IsShapedSteps limit 1 width p.near
  pub back : reach < p.back

-- the steps that P holds of are in the plan besides
pub record AddsSteps {A : Type 0} (c : Code) (old new : Plan A) (P : ℕ → ℕ → Type 0) : Type 0 where
  pub keeps : (d x : ℕ) → HasStep c old d x → HasStep c new d x
  pub has : (d x : ℕ) → P d x → HasStep c new d x
  pub only : (d x : ℕ) → HasStep c new d x → HasStep c old d x ⊎ P d x

-- ---- steps of moves

-- a move that removes fewer than `end` beans and leaves one heap, where the value x stands for no second one
pub record IsEndStep (c : Code) (first end d x : ℕ) : Type 0 where
  pub some : 1 ≤ d
  pub few : d < end
  pub allowed : IsTrue (allows c d 1)
  pub value : x ≡ first

-- a move that removes fewer than `end` beans and leaves a heap of this size and value besides
pub record IsPairStep (c : Code) (heap value end d x : ℕ) : Type 0 where
  pub removed : ℕ
  pub few : removed < end
  pub allowed : IsTrue (allows c removed 2)
  pub offset : d ≡ removed + heap
  pub is : x ≡ value

-- a small heap is left besides, or its twin
abbrev pub IsSmallStep : Code → ℕ → SmallHeap → ℕ → ℕ → Type 0
IsSmallStep c apart h d x = IsPairStep c h.heap h.value (len c + 1) d x ⊎ (IsTrue h.twin × IsPairStep c (h.heap + apart) h.value (len c + 1) d x)

-- one of the first heaps of a list is left besides, or its twin
pub record IsHeapStep (c : Code) (apart : ℕ) (heaps : List SmallHeap) (end d x : ℕ) : Type 0 where
  pub heap : SmallHeap
  pub at : ℕ
  pub within : at < end
  pub is : slice_index_or heaps at heap ≡ heap
  pub step : IsSmallStep c apart heap d x

-- it has a value below `limit`, and as many beans as `reach` at most, and so has its twin; a heap that has one is no smaller than a
-- block
pub record IsWithin (limit reach apart : ℕ) (h : SmallHeap) : Type 0 where
  pub some : 1 ≤ h.heap
  pub few : h.heap ≤ reach
  pub small : h.value < limit
  pub twin : IsTrue h.twin → (BLOCK ≤ h.heap) × (h.heap + apart ≤ reach)

-- its value is the one that stands among the values of the small heaps, and that of its twin; a heap that has one is no smaller
-- than a block
pub record IsAmong (small : List ℕ) (apart : ℕ) (h : SmallHeap) : Type 0 where
  pub some : 1 ≤ h.heap
  pub few : h.heap < length small
  pub value : h.value ≡ slice_index small h.heap
  pub twin : IsTrue h.twin → (BLOCK ≤ h.heap) × (h.heap + apart < length small) × (h.value ≡ slice_index small (h.heap + apart))

-- a heap of so many beans and of this value is in the list
pub record HasHeap (list : List SmallHeap) (h v : ℕ) : Type 0 where
  pub small : SmallHeap
  pub in_list : Contains list small
  pub heap : small.heap ≡ h
  pub value : small.value ≡ v

-- ---- what a plan makes

-- some move leaves a small heap of the value x, and one that is smaller by d than the heap that it came from
pub record IsStep (c : Code) (reach d x : ℕ) : Type 0 where
  pub removed : ℕ
  pub small : ℕ
  pub few : removed ≤ len c
  pub total : removed + small ≡ d
  pub some : 1 ≤ d
  pub value : nim_value c small ≡ x
  pub near : small ≤ reach
  pub allowed : IsTrue (allows c removed (heaps_left small 1))

-- these are steps of moves, among them those of all moves that leave at most one heap or a listed heap
pub record IsPlan (c : Code) (heaps : List ℕ) (reach : ℕ) (P : ℕ → ℕ → Type 0) : Type 0 where
  pub steps : (d x : ℕ) → P d x → IsStep c reach d x
  pub one : (r : ℕ) → 1 ≤ r → r ≤ len c → IsTrue (allows c r 1) → P r (nim_value c 0)
  pub rare : (r a : ℕ) → r ≤ len c → IsTrue (allows c r 2) → Contains heaps a → 1 ≤ a → P (r + a) (nim_value c a)
  pub small : (a : ℕ) → Contains heaps a → a ≤ reach

-- v is what one of the first steps makes of the nim-value that far before
pub record IsMade {A : Type 0} (c : Code) (n : ℕ) (s : Steps A) (end v : ℕ) : Type 0 where
  pub at : ℕ
  pub within : at < end
  pub is : v ≡ bit_xor (slice_index s.values.items at) (nim_value c (n - slice_index s.offsets.items at))

-- v is the nim-value of what is left of h beans without those that a move removes that leaves two heaps
pub record IsSplitValue (c : Code) (h v : ℕ) : Type 0 where
  pub removed : ℕ
  pub few : removed ≤ len c
  pub allowed : IsTrue (allows c removed 2)
  pub is : v ≡ nim_value c (h - removed)

-- v is what a heap of an offset of a list and a move that leaves it make
pub record IsPairMade {A : Type 0} (c : Code) (n back apart : ℕ) (s : Steps A) (end v : ℕ) : Type 0 where
  pub at : ℕ
  pub within : at < end
  pub heap : ℕ
  pub over : IsOffsetOf back apart (slice_index s.offsets.items at) heap
  pub split : IsSplitValue c (n - heap) (bit_xor v (slice_index s.values.items at))

-- v is what a far step of the plan makes
abbrev pub IsFarMade : {A : Type 0} → Code → ℕ → Plan A → ℕ → Type 0
IsFarMade c n p v = IsPairMade c n p.back p.apart p.far (length p.far.offsets.items) v

-- v is what a low step of the plan makes
abbrev pub IsLowMade : {A : Type 0} → Code → ℕ → Plan A → ℕ → Type 0
IsLowMade c n p v = IsPairMade c n p.back p.apart p.low (length p.low.offsets.items) v

-- v is what a step of the plan makes
abbrev pub IsMadeBy : {A : Type 0} → Code → ℕ → Plan A → ℕ → Type 0
IsMadeBy c n p v = (IsFarMade c n p v ⊎ IsLowMade c n p v) ⊎ IsMade c n p.near (length p.near.offsets.items) v

-- the set has what the plan makes below `limit`
abbrev pub IsUnion : {A : Type 0} → ℕ → Code → ℕ → Plan A → ℕ → Type 0
IsUnion limit c n p set = (v : ℕ) → v < limit → Has set v ↔ IsMadeBy c n p v

-- below `limit` the set has values of near options only, and those of all options that leave at most one heap or a listed heap
pub record IsNearSet (limit : ℕ) (c : Code) (n : ℕ) (heaps : List ℕ) (reach set : ℕ) : Type 0 where
  pub sound : (v : ℕ) → v < limit → Has set v → IsNear c (nim_value c) n heaps reach v
  pub listed : (v r : ℕ) → v < limit → IsRareBy c (nim_value c) n heaps r v → Has set v

-- ---- what is known before a heap

-- the mask parts the heaps: the listed heaps are all rare ones up to `reach`, and each heap from there to n is common
pub record IsParted (c : Code) (mask : Mask) (heaps : List ℕ) (reach n : ℕ) : Type 0 where
  pub fit : IsFit c mask
  pub listed : (a : ℕ) → 1 ≤ a → a ≤ reach → is_rare mask a (nim_value c a) ≡ true → Contains heaps a
  pub common : (h : ℕ) → reach < h → h < n → is_rare mask h (nim_value c h) ≡ false

-- the values are those of the first heaps
abbrev pub AreFirst : Code → List ℕ → Type 0
AreFirst c values = (h : ℕ) → h < length values → slice_index values h ≡ nim_value c h

-- the values are those of the last heaps before n
abbrev pub AreLast : Code → ℕ → List ℕ → Type 0
AreLast c n values = (h : ℕ) → h < n → n ≤ h + length values → slice_index values (h + length values - n) ≡ nim_value c h

-- the numbers of beans that moves remove that leave two heaps
abbrev pub AreSplits : Code → List ℕ → Type 0
AreSplits c splits = (r : ℕ) → Contains splits r ↔ ((r ≤ len c) × IsTrue (allows c r 2))

-- v is the value that stands so far before a place, for one of the first numbers of a list
pub record IsOneBefore (splits values : List ℕ) (place end v : ℕ) : Type 0 where
  pub at : ℕ
  pub within : at < end
  pub is : v ≡ slice_index values (place - slice_index splits at)
