-- The numbers that are written are words, and the masks and the marked values of a stage fit.
use Rattle.std.proofs.Common.{◌≡◌, ℕ, ◌<◌, ◌≤◌, ◌^◌, List, [], ◌∷◌, ◌++◌, length, sym, subst, arith}
use Rattle.std.proofs.lemmas.List.Elements.{All-append, All-cons, All-weaker}
use Rattle.std.specs.List.{All}
use Rattle.oct_window.specs.declared.place.Place.{Place}
use Rattle.oct_window.specs.declared.place.Seen.{Seen}
use Rattle.oct_window.specs.declared.place.Stage.{Stage}
use Rattle.oct_window.specs.declared.place.Stage.TheVariants.{Comparing, Watching}
use Rattle.oct_window.specs.declared.watch.Watch.{Watch}
use Rattle.oct_saved.specs.Numbers.{listing, place_scalars, reader_scalars, seen_scalars, stage_kind, stage_scalars, watch_scalars, window_scalars}
use Rattle.oct_saved.specs.Saved.{AreWords, FitsMark, FitsMasks, FitsStage}

pub more_words : (xs ys : List ℕ) → AreWords xs → AreWords ys → AreWords (xs ++ ys)
more_words xs ys first further = All-append (λ n. n < 2 ^ 64) xs ys first further

-- the length of a list is a word, and so are its numbers
pub listed_words : (bound : ℕ) (xs : List ℕ) → bound ≤ 2 ^ 64 → length xs < 2 ^ 64 → All (λ n. n < bound) xs → AreWords (listing xs)
listed_words bound xs le short fits =
    All-cons (λ n. n < 2 ^ 64) (length xs) xs short (All-weaker (λ n. n < bound) (λ n. n < 2 ^ 64) (λ n lt. omega arith) xs fits)

-- the scalars of a place that watches, of which there are 9
pub watching_words : {A : Type 0} (p : Place A) (w : Watch A) → p.stage ≡ Watching w → AreWords (0 ∷ p.code.head ∷ p.listed ∷ w.at ∷ []) → AreWords (window_scalars w.window)
    → AreWords (listing (place_scalars p))
watching_words {A} p w is front behind =
    let P : Stage A → Type 0 = λ s. AreWords (listing (stage_kind s ∷ p.code.head ∷ p.listed ∷ stage_scalars s)) in
    let all = more_words (0 ∷ p.code.head ∷ p.listed ∷ w.at ∷ []) (window_scalars w.window) front behind in
    subst P (sym is) (All-cons (λ n. n < 2 ^ 64) 9 (0 ∷ p.code.head ∷ p.listed ∷ watch_scalars w) (omega arith) all)

-- the scalars of a place that compares, of which there are 19
pub comparing_words : {A : Type 0} (p : Place A) (s : Seen A) → p.stage ≡ Comparing s → AreWords (1 ∷ p.code.head ∷ p.listed ∷ s.start ∷ s.values ∷ [])
    → AreWords (s.comparison.period ∷ s.comparison.start ∷ []) → AreWords (reader_scalars s.comparison.first) → AreWords (reader_scalars s.comparison.second)
    → AreWords (listing (place_scalars p))
comparing_words {A} p s is front compared one other =
    let P : Stage A → Type 0 = λ z. AreWords (listing (stage_kind z ∷ p.code.head ∷ p.listed ∷ stage_scalars z)) in
    let k = s.comparison in
    let readers = reader_scalars k.first ++ reader_scalars k.second in
    let both = more_words (reader_scalars k.first) (reader_scalars k.second) one other in
    let behind = more_words (k.period ∷ k.start ∷ []) readers compared both in
    let all = more_words (1 ∷ p.code.head ∷ p.listed ∷ s.start ∷ s.values ∷ []) (k.period ∷ k.start ∷ readers) front behind in
    subst P (sym is) (All-cons (λ n. n < 2 ^ 64) 19 (1 ∷ p.code.head ∷ p.listed ∷ seen_scalars s) (omega arith) all)

pub fits_stage : {A : Type 0} (s : Stage A) → FitsMasks s → FitsMark s → FitsStage s
fits_stage (Watching w) mask mark = record { mask = mask; mark = mark }
fits_stage (Comparing s) masks mark = record { first = masks.0; second = masks.1 }
