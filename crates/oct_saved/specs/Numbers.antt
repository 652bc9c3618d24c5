-- How a place is written as numbers.
use Rattle.std.specs.Prelude.{ℕ, Bool, true, false, List, [], ◌∷◌, ◌++◌, length}
use Rattle.oct_mex.specs.declared.mask.Mask.{Mask}
use Rattle.oct_window.specs.declared.place.Place.{Place}
use Rattle.oct_window.specs.declared.place.Seen.{Seen}
use Rattle.oct_window.specs.declared.place.Stage.{Stage}
use Rattle.oct_window.specs.declared.place.Stage.TheVariants.{Comparing, Watching}
use Rattle.oct_window.specs.declared.reader.Reader.{Reader}
use Rattle.oct_window.specs.declared.watch.Watch.{Watch}
use Rattle.oct_window.specs.declared.window.Window.{Window}

-- the length of a list, and then its numbers
abbrev pub listing : List ℕ → List ℕ
listing xs = length xs ∷ xs

-- ---- the scalars

abbrev pub parity_number : Bool → ℕ
parity_number true = 1
parity_number false = 0

abbrev pub mask_numbers : Mask → List ℕ
mask_numbers m = m.bits ∷ parity_number m.parity ∷ m.turn ∷ []

abbrev pub window_scalars : {A : Type 0} → Window A → List ℕ
window_scalars w = w.reach ∷ w.count ∷ mask_numbers w.rare.mask

abbrev pub reader_scalars : {A : Type 0} → Reader A → List ℕ
reader_scalars r = r.heap ∷ window_scalars r.window

abbrev pub watch_scalars : {A : Type 0} → Watch A → List ℕ
watch_scalars w = w.at ∷ window_scalars w.window

abbrev pub seen_scalars : {A : Type 0} → Seen A → List ℕ
seen_scalars s = s.start ∷ s.values ∷ s.comparison.period ∷ s.comparison.start ∷ reader_scalars s.comparison.first ++ reader_scalars s.comparison.second

abbrev pub stage_kind : {A : Type 0} → Stage A → ℕ
stage_kind (Watching w) = 0
stage_kind (Comparing s) = 1

abbrev pub stage_scalars : {A : Type 0} → Stage A → List ℕ
stage_scalars (Watching w) = watch_scalars w
stage_scalars (Comparing s) = seen_scalars s

-- what a place is, the head of its code, how many first values are listed, and the numbers of its stage
abbrev pub place_scalars : {A : Type 0} → Place A → List ℕ
place_scalars p = stage_kind p.stage ∷ p.code.head ∷ p.listed ∷ stage_scalars p.stage

-- ---- the lists behind them

-- the rare heaps and the values
abbrev pub window_lists : {A : Type 0} → Window A → List ℕ
window_lists w = listing w.rare.heaps.items ++ listing w.held.items

abbrev pub watch_lists : {A : Type 0} → Watch A → List ℕ
watch_lists w = window_lists w.window ++ listing w.mark.items

abbrev pub seen_lists : {A : Type 0} → Seen A → List ℕ
seen_lists s = window_lists s.comparison.first.window ++ window_lists s.comparison.second.window

abbrev pub stage_lists : {A : Type 0} → Stage A → List ℕ
stage_lists (Watching w) = watch_lists w
stage_lists (Comparing s) = seen_lists s

-- all numbers of a place: the scalars, the digits of its code, and the lists of its stage
abbrev pub place_numbers : {A : Type 0} → Place A → List ℕ
place_numbers p = listing (place_scalars p) ++ (listing p.code.digits ++ stage_lists p.stage)
