-- The sets of a block of heaps.
use Rattle.std.specs.Prelude.{◌≡◌, ℕ, ◌+◌, ◌-◌, ◌*◌, ◌%◌, ◌^◌, ◌<◌, ◌≤◌, ◌⊎◌, ◌↔◌, List, length, map, slice_index}
use Rattle.std.specs.Vec.{vec_len, vec_capacity}
use Rattle.bitsets.specs.Sets.{Has}
use Rattle.oct_code.specs.Code.{Code, len}
use Rattle.oct_sets.specs.Plans.{AreSplits, HasStep, IsFarMade, IsLowMade, IsPlan, IsShapedPlan, IsSplitValue}
use Rattle.oct_sets.specs.declared.plan.Plan.{Plan}
use Rattle.oct_sets.specs.declared.plan.TheConstants.{BLOCK, LOW}
use Rattle.oct_sets.specs.declared.sets.Sets.{Sets}
use Rattle.oct_sets.specs.declared.sets.Sets.TheVariants.{Narrow, Wide}
use Rattle.oct_sets.specs.declared.sets_of.SetsOf.{SetsOf}

-- ---- those of words of one width

-- its parts fit together, whatever sets it has, in words for numbers of so many bits
pub record IsShapedOf {W A : Type 0} (digits most width : ℕ) (s : SetsOf W A) : Type 0 where
  pub reach : s.reach ≡ most
  pub plan : IsShapedPlan (2 ^ digits) most width s.plan
  pub splits : (k : ℕ) → k < length s.splits.items → slice_index s.splits.items k < width
  pub words : s.plan.back + most ≤ vec_len s.words
  pub twice : vec_len s.words ≤ 2 * s.plan.back
  pub spare : 2 * s.plan.back ≤ vec_capacity s.words
  pub twins : s.plan.back + s.twins ≤ vec_len s.words
  pub high : s.plan.back < 2 ^ 62
  pub behind : vec_len s.words ≤ s.plan.back + s.heap
  pub least : width ≤ s.heap
  pub block : vec_len s.block ≡ BLOCK
  pub started : s.start ≤ s.heap
  pub within : s.heap < s.ready
  pub groups : (s.ready - s.start) % LOW ≡ 0
  pub ready : s.ready ≤ s.start + BLOCK

-- from the place `back` on, for each of the last heaps before n, the values of what moves that leave two heaps leave of it
abbrev pub ArePairs : Code → ℕ → ℕ → List ℕ → Type 0
ArePairs c n back words = (j v : ℕ) → back ≤ j → j < length words → Has (slice_index words j) v ↔ IsSplitValue c (n + j - length words) v

-- before the place `twins`, those of the heap whose word stands `back` places on, and those of the one `apart` before this, if its
-- word is there
abbrev pub AreTwins : Code → ℕ → ℕ → ℕ → ℕ → List ℕ → Type 0
AreTwins c n back apart twins words = (j v : ℕ) → apart ≤ j → j < twins → Has (slice_index words j) v ↔ (IsSplitValue c (n + (back + j) - length words) v ⊎ IsSplitValue c (n + (back + j) - length words - apart) v)

-- for each heap of the block that begins at n, what far steps make, and for so many of the first ones what low steps make too
pub record IsBlock {A : Type 0} (digits : ℕ) (c : Code) (n : ℕ) (p : Plan A) (ready : ℕ) (block : List ℕ) : Type 0 where
  pub first : (i v : ℕ) → i < ready → v < 2 ^ digits → Has (slice_index block i) v ↔ (IsFarMade c (n + i) p v ⊎ IsLowMade c (n + i) p v)
  pub others : (i v : ℕ) → ready ≤ i → i < BLOCK → v < 2 ^ digits → Has (slice_index block i) v ↔ IsFarMade c (n + i) p v

-- its plan, its words and its block are so of the game
pub record IsRightOf {W A : Type 0} (number : W → ℕ) (digits : ℕ) (c : Code) (heaps : List ℕ) (reach : ℕ) (s : SetsOf W A) : Type 0 where
  pub plan : IsPlan c heaps reach (HasStep c s.plan)
  pub splits : AreSplits c s.splits.items
  pub pairs : ArePairs c s.heap s.plan.back (map number s.words.items)
  pub twins : AreTwins c s.heap s.plan.back s.plan.apart s.twins (map number s.words.items)
  pub block : IsBlock digits c s.start s.plan (s.ready - s.start) (map number s.block.items)
  pub room : 2 * reach + len c < s.start

-- ---- those of either width

-- no far heap of the plan is larger
abbrev pub reach_of : {A : Type 0} → Sets A → ℕ
reach_of (Narrow s) = s.reach
reach_of (Wide s) = s.reach

-- the next heap
abbrev pub heap_of : {A : Type 0} → Sets A → ℕ
heap_of (Narrow s) = s.heap
heap_of (Wide s) = s.heap

-- each number in a set is below this one
abbrev pub limit_of : {A : Type 0} → Sets A → ℕ
limit_of (Narrow s) = 32
limit_of (Wide s) = 64

-- their parts fit together, whatever sets they are
abbrev pub IsShaped : {A : Type 0} → ℕ → ℕ → Sets A → Type 0
IsShaped most width (Narrow s) = IsShapedOf 5 most width s
IsShaped most width (Wide s) = IsShapedOf 6 most width s

-- they are so of the game
abbrev pub IsRight : {A : Type 0} → Code → List ℕ → ℕ → Sets A → Type 0
IsRight c heaps reach (Narrow s) = IsRightOf (λ word. word) 5 c heaps reach s
IsRight c heaps reach (Wide s) = IsRightOf (λ word. word) 6 c heaps reach s
