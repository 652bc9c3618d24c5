-- Items in short chunks, which make up one list.
use Rattle.std.specs.Prelude.{◌≡◌, ◌≢◌, ℕ, ◌+◌, ◌<◌, ◌≤◌, ◌^◌, zero, suc, Bool, true, false, List, [], ◌∷◌, ◌++◌, length, slice_index_or}
use Rattle.std.specs.Prelude.{Vec}
use Rattle.std.specs.Vec.{vec_len, vec_capacity}
use Rattle.std.specs.List.{AllWithin}
use Rattle.std.specs.List.Sorted.{IsPartitionPoint}
use Rattle.std.specs.Ordering.{is_lt}
use Rattle.std.specs.declared.cmp.Ordering.{Ordering}
use Rattle.std.specs.declared.cmp.Ordering.TheVariants.{Less, Equal}
use Rattle.chunked.specs.declared.chunks.Place.{Place}
use Rattle.chunked.specs.declared.chunks.Chunks.{Chunks}

-- the lists, one after the other
abbrev pub joined : {V X : Type 0} → (V → List X) → List V → List X
joined f [] = []
joined f (v ∷ vs) = f v ++ joined f vs

-- where the n-th list starts among the elements of all
abbrev pub start_of : {V X : Type 0} → (V → List X) → List V → ℕ → ℕ
start_of f vs zero = 0
start_of f [] (suc n) = 0
start_of f (v ∷ vs) (suc n) = length (f v) + start_of f vs n

-- whether the first element passes, if there is one
abbrev pub first_passes : {X : Type 0} → (X → Bool) → List X → Bool
first_passes p [] = true
first_passes p (x ∷ xs) = p x

abbrev pub content : {X A : Type 0} → Vec X A → List X
content chunk = chunk.items

abbrev pub starts : {X A : Type 0} → (X → Bool) → Vec X A → Bool
starts p chunk = first_passes p chunk.items

-- all items in their order
abbrev pub chunked : {X A : Type 0} → Chunks X A → List X
chunked s = joined content s.chunks.items

-- the index of a place among all items
abbrev pub index_of : {X A : Type 0} → Chunks X A → Place → ℕ
index_of s place = start_of content s.chunks.items place.chunk + place.at

-- no chunk but the first is empty
pub record IsChunked {X A : Type 0} (s : Chunks X A) : Type 0 where
  pub filled : AllWithin (λ chunk. 0 < length (content chunk)) s.chunks.items 1 (length s.chunks.items)
  pub count : s.len ≡ length (chunked s)
  pub small : s.len < 2 ^ 64

-- an item is at the place
pub record IsInside {X A : Type 0} (s : Chunks X A) (place : Place) : Type 0 where
  pub chunk : place.chunk < length s.chunks.items
  pub at : (d : Vec X A) → place.at < length (content (slice_index_or s.chunks.items place.chunk d))

-- an item may go there
pub record IsBeside {X A : Type 0} (s : Chunks X A) (place : Place) : Type 0 where
  pub chunk : place.chunk < length s.chunks.items
  pub at : (d : Vec X A) → place.at ≤ length (content (slice_index_or s.chunks.items place.chunk d))

-- there is room for one more
pub record HasRoom {X A : Type 0} (s : Chunks X A) (place : Place) : Type 0 where
  pub capacity : (d : Vec X A) → vec_len (slice_index_or s.chunks.items place.chunk d) < vec_capacity (slice_index_or s.chunks.items place.chunk d)
  pub count : length (chunked s) + 1 < 2 ^ 64

-- the item at the place
abbrev pub IsItemAt : {X A : Type 0} → Chunks X A → Place → X → Type 0
IsItemAt s place e = slice_index_or (chunked s) (index_of s place) e ≡ e

-- an item may go there, once there is a chunk
pub record IsNear {X A : Type 0} (s : Chunks X A) (place : Place) : Type 0 where
  pub beside : 0 < length s.chunks.items → IsBeside s place
  pub first : length s.chunks.items ≡ 0 → (place.chunk ≡ 0) × (place.at ≡ 0)

-- an item may go to the place, which is where the old one was
abbrev pub StandsAt : {X A : Type 0} → Chunks X A → Place → Chunks X A → Place → Type 0
StandsAt old before new place = IsBeside new place × (index_of new place ≡ index_of old before)

-- the element at the index is equal to what is searched
abbrev pub IsFound : {X : Type 0} → (X → Ordering) → List X → ℕ → Type 0
IsFound {X} order xs at = (at < length xs) × ((d : X) → order (slice_index_or xs at d) ≡ Equal)

-- the elements before the index are less than what is searched, none from it on is, and the one at it is not equal
abbrev pub IsGapAt : {X : Type 0} → (X → Ordering) → List X → ℕ → Type 0
IsGapAt {X} order xs at = (at ≤ length xs) × IsPartitionPoint (λ e. order e ≡ Less) (λ e. is_lt (order e) ≡ false) xs at × ((d : X) → at < length xs → order (slice_index_or xs at d) ≢ Equal)
