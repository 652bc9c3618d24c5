-- What a shelf keeps.
use Rattle.std.specs.Prelude.{◌≡◌, ◌<◌, ◌≤◌, length, max, slice_index_or}
use Rattle.oct_code.specs.declared.limits.TheConstants.{LIMIT}
use Rattle.oct_verify.specs.Filed.{Filed}
use Rattle.oct_verify.specs.Filing.{Filing, Filings}
use Rattle.oct_verify.specs.Kept.{Fits, IsSettling, AreParked, IsGap, filings_of}
use Rattle.chunked.specs.Chunked.{chunked, index_of, IsChunked, IsInside, IsBeside, HasRoom}
use Rattle.chunked.specs.declared.chunks.Place.{Place}
use Rattle.oct_verify.specs.declared.shelf.Shelf.{Shelf}

-- the blocks of the shelf
abbrev pub shelved : {A : Type 0} → Shelf A → Filings
shelved s = filings_of (chunked s.entries)

-- as many entries are settled as were compared; some that wait may start at or below the known length
pub record IsHalfway {A : Type 0} (s : Shelf A) : Type 0 where
  pub chunks : IsChunked s.entries
  pub settling : IsSettling s.comparer.values.code (chunked s.entries) s.comparer.checks s.known s.comparer.values.room
  pub within : s.known ≤ LIMIT
  pub held : s.known ≤ max 1 s.comparer.values.len

-- none of those that wait does
pub record IsKept {A : Type 0} (s : Shelf A) : Type 0 where
  pub halfway : IsHalfway s
  pub parked : AreParked (chunked s.entries) s.comparer.checks s.known

-- the place of the first of those that wait, which starts at or below the known length
pub record IsNextReached {A : Type 0} (s : Shelf A) (place : Place) : Type 0 where
  pub inside : IsInside s.entries place
  pub next : index_of s.entries place ≡ s.comparer.checks
  pub waits : s.comparer.checks < length (chunked s.entries)
  pub reached : (d : Filed) → (slice_index_or (chunked s.entries) s.comparer.checks d).block.start ≤ s.known

-- the block can be put in at the place
pub record HasRoomFor {A : Type 0} (s : Shelf A) (f : Filing) (place : Place) : Type 0 where
  pub beside : IsBeside s.entries place
  pub room : HasRoom s.entries place
  pub gap : IsGap (chunked s.entries) f (index_of s.entries place)
  pub fits : Fits s.comparer.values.code s.comparer.values.room f
