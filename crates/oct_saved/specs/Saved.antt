-- The text of a place, and which places have one of their own.
use Rattle.std.specs.Prelude.{◌≡◌, ℕ, ◌^◌, ◌<◌, Bool, nat_eq, List, ◌++◌, codes}
use Rattle.std.specs.List.{All, flat_map, starts_with}
use Rattle.byteorder.specs.Endian.{big_bytes}
use Rattle.sha2.specs.Sha256.{sha256}
use Rattle.oct_code.specs.Code.{Code, IsCode}
use Rattle.oct_mex.specs.declared.mask.Mask.{Mask}
use Rattle.oct_window.specs.declared.place.Place.{Place}
use Rattle.oct_window.specs.declared.place.Seen.{Seen}
use Rattle.oct_window.specs.declared.place.Stage.{Stage}
use Rattle.oct_window.specs.declared.place.Stage.TheVariants.{Comparing, Watching}
use Rattle.oct_window.specs.declared.watch.Watch.{Watch}
use Rattle.oct_saved.specs.Numbers.{place_numbers}

-- a number in 8 bytes, the highest first
unfoldable pub word_bytes : ℕ → List ℕ
word_bytes n = big_bytes 8 n

abbrev pub number_bytes : List ℕ → List ℕ
number_bytes numbers = flat_map word_bytes numbers

abbrev pub tag : List ℕ
tag = codes "OGW1"

-- the first four bytes are the tag
abbrev pub has_tag : List ℕ → Bool
has_tag text = starts_with nat_eq text tag

-- the tag, the checksum, and then what is summed
abbrev pub summed_text : List ℕ → List ℕ
summed_text body = tag ++ (sha256 body ++ body)

abbrev pub saved_text : {A : Type 0} → Place A → List ℕ
saved_text p = summed_text (number_bytes (place_numbers p))

-- ---- the code

abbrev pub IsCodedStage : {A : Type 0} → Code → Stage A → Type 0
IsCodedStage c (Watching w) = w.window.code ≡ c
IsCodedStage c (Comparing s) = (s.comparison.first.window.code ≡ c) × (s.comparison.second.window.code ≡ c)

-- its windows are of its code's game
abbrev pub IsCoded : {A : Type 0} → Place A → Type 0
IsCoded p = IsCodedStage p.code p.stage

-- ---- numbers of their types, as each place in memory has them

abbrev pub AreWords : List ℕ → Type 0
AreWords numbers = All (λ n. n < 2 ^ 64) numbers

pub record FitsMask (m : Mask) : Type 0 where
  pub bits : m.bits < 2 ^ 32
  pub turn : m.turn < 2 ^ 8

pub record FitsWatch {A : Type 0} (w : Watch A) : Type 0 where
  pub mask : FitsMask w.window.rare.mask
  pub mark : All (λ v. v < 2 ^ 16) w.mark.items

pub record FitsSeen {A : Type 0} (s : Seen A) : Type 0 where
  pub first : FitsMask s.comparison.first.window.rare.mask
  pub second : FitsMask s.comparison.second.window.rare.mask

abbrev pub FitsStage : {A : Type 0} → Stage A → Type 0
FitsStage (Watching w) = FitsWatch w
FitsStage (Comparing s) = FitsSeen s

-- the masks of its windows, which are among its scalars
abbrev pub FitsMasks : {A : Type 0} → Stage A → Type 0
FitsMasks (Watching w) = FitsMask w.window.rare.mask
FitsMasks (Comparing s) = FitsMask s.comparison.first.window.rare.mask × FitsMask s.comparison.second.window.rare.mask

-- the values that it has marked, which are among its lists
abbrev pub FitsMark : {A : Type 0} → Stage A → Type 0
FitsMark (Watching w) = All (λ v. v < 2 ^ 16) w.mark.items
FitsMark (Comparing s) = Unit {0}

pub record FitsPlace {A : Type 0} (p : Place A) : Type 0 where
  pub code : IsCode p.code
  pub stage : FitsStage p.stage
  pub numbers : AreWords (place_numbers p)
