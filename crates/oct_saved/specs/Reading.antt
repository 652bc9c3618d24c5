-- What is read, and where it is refused.
use Rattle.std.specs.Prelude.{◌≡◌, ℕ, true, false, List, ◌∷◌, ◌++◌}
use Rattle.oct_code.specs.Code.{Code, IsCode}
use Rattle.oct_window.specs.Places.{IsKept}
use Rattle.oct_window.specs.Windows.{IsShaped}
use Rattle.oct_window.specs.declared.place.Place.{Place}
use Rattle.oct_window.specs.declared.place.Seen.{Seen}
use Rattle.oct_window.specs.declared.place.Stage.{Stage}
use Rattle.oct_window.specs.declared.place.Stage.TheVariants.{Comparing, Watching}
use Rattle.oct_window.specs.declared.reader.Reader.{Reader}
use Rattle.oct_window.specs.declared.watch.Watch.{Watch}
use Rattle.oct_window.specs.declared.window.Window.{Window}
use Rattle.oct_saved.specs.Numbers.{listing, mask_numbers, reader_scalars, seen_scalars, stage_kind, stage_scalars, watch_scalars, window_scalars}
use Rattle.oct_saved.specs.Saved.{FitsMask, FitsPlace, FitsSeen, FitsStage, FitsWatch, has_tag, IsCoded, IsCodedStage, saved_text, summed_text}
use Rattle.oct_saved.specs.declared.scalars.Scalars.{Scalars}
use Rattle.oct_saved.specs.declared.error.ReadError.{ReadError}
use Rattle.oct_saved.specs.declared.error.ReadError.TheVariants.{OutOfMemory, Refused, Version}

-- a place that can be taken up again, of its code's game
pub record IsSaved {A : Type 0} (p : Place A) : Type 0 where
  pub kept : IsKept p
  pub coded : IsCoded p
  pub fits : FitsPlace p

-- where a text is refused: there is no tag, or no place has this text
abbrev pub RefusesPlace : (A : Type 0) → List ℕ → ReadError → Type 0
RefusesPlace A text Version = has_tag text ≡ false
RefusesPlace A text Refused = (has_tag text ≡ true) × ((p : Place A) → IsSaved p → text ≡ saved_text p → ⊥)
RefusesPlace A text OutOfMemory = has_tag text ≡ true

-- where it is refused for its tag, its checksum or its length
abbrev pub RefusesBody : List ℕ → ReadError → Type 0
RefusesBody text Version = has_tag text ≡ false
RefusesBody text Refused = (has_tag text ≡ true) × ((body : List ℕ) → text ≡ summed_text body → ⊥)
RefusesBody text OutOfMemory = ⊥

-- numbers are refused where P holds for none such
abbrev pub RefusesIf : ReadError → Type 0 → Type 0
RefusesIf Version P = ⊥
RefusesIf Refused P = P → ⊥
RefusesIf OutOfMemory P = Unit {0}

-- a list begins with what `numbers` writes of something that is P
pub record Begins {X : Type 0} (numbers : X → List ℕ) (P : X → Type 0) (old : List ℕ) : Type 0 where
  pub value : X
  pub rest : List ℕ
  pub is : P value
  pub front : old ≡ numbers value ++ rest

-- this is P, and what is written of it stands in the old list before the new one
pub record IsFront {X : Type 0} (numbers : X → List ℕ) (P : X → Type 0) (old new : List ℕ) (x : X) : Type 0 where
  pub is : P x
  pub front : old ≡ numbers x ++ new

-- a list of numbers behind its length
abbrev pub BeginsWithList : List ℕ → Type 0
BeginsWithList old = Begins listing (λ xs. Unit {0}) old

-- ---- the parts that are read

-- the numbers are these scalars
pub record AreScalars (numbers : List ℕ) (s : Scalars) : Type 0 where
  pub fits : FitsMask s.mask
  pub spelled : numbers ≡ s.reach ∷ s.count ∷ mask_numbers s.mask

-- a window of these scalars, rare heaps and values
pub record IsWindowBy {A : Type 0} (c : Code) (s : Scalars) (rare values : List ℕ) (w : Window A) : Type 0 where
  pub shaped : IsShaped w
  pub code : w.code ≡ c
  pub reach : w.reach ≡ s.reach
  pub count : w.count ≡ s.count
  pub mask : w.rare.mask ≡ s.mask
  pub heaps : w.rare.heaps.items ≡ rare
  pub held : w.held.items ≡ values

-- a code of this head and these digits
pub record IsCodeOf (d0 : ℕ) (behind : List ℕ) (c : Code) : Type 0 where
  pub valid : IsCode c
  pub head : c.head ≡ d0
  pub digits : c.digits ≡ behind

-- the further ones are of these scalars

pub record IsWindowOf {A : Type 0} (c : Code) (numbers : List ℕ) (w : Window A) : Type 0 where
  pub shaped : IsShaped w
  pub code : w.code ≡ c
  pub mask : FitsMask w.rare.mask
  pub scalars : window_scalars w ≡ numbers

pub record IsReaderOf {A : Type 0} (c : Code) (numbers : List ℕ) (r : Reader A) : Type 0 where
  pub shaped : IsShaped r.window
  pub code : r.window.code ≡ c
  pub mask : FitsMask r.window.rare.mask
  pub scalars : reader_scalars r ≡ numbers

abbrev pub IsShapedStage : {A : Type 0} → Stage A → Type 0
IsShapedStage (Watching w) = IsShaped w.window
IsShapedStage (Comparing s) = IsShaped s.comparison.first.window × IsShaped s.comparison.second.window

pub record IsWatchOf {A : Type 0} (c : Code) (numbers : List ℕ) (w : Watch A) : Type 0 where
  pub shaped : IsShaped w.window
  pub code : w.window.code ≡ c
  pub fits : FitsWatch w
  pub scalars : watch_scalars w ≡ numbers

pub record IsSeenOf {A : Type 0} (c : Code) (numbers : List ℕ) (s : Seen A) : Type 0 where
  pub first : IsShaped s.comparison.first.window
  pub second : IsShaped s.comparison.second.window
  pub first_code : s.comparison.first.window.code ≡ c
  pub second_code : s.comparison.second.window.code ≡ c
  pub fits : FitsSeen s
  pub scalars : seen_scalars s ≡ numbers

pub record IsStageOf {A : Type 0} (c : Code) (which : ℕ) (numbers : List ℕ) (s : Stage A) : Type 0 where
  pub shaped : IsShapedStage s
  pub coded : IsCodedStage c s
  pub fits : FitsStage s
  pub kind : stage_kind s ≡ which
  pub scalars : stage_scalars s ≡ numbers

-- its windows fit together, and are of its code's game
pub record IsPlaceShaped {A : Type 0} (p : Place A) : Type 0 where
  pub code : IsCode p.code
  pub shaped : IsShapedStage p.stage
  pub coded : IsCoded p
  pub fits : FitsStage p.stage
