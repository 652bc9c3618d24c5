-- What stands at the front of the numbers.
use Rattle.std.proofs.Common.{◌≡◌, ℕ, ◌-◌, ◌<◌, ◌≤◌, ◌^◌, List, [], ◌∷◌, ◌++◌, length, get_or, slice_index, take, drop, Result, Ok, Err, IfErr, refl, sym, ◌∙◌, ap, subst, arith}
use Rattle.std.proofs.lemmas.List.{append_assoc, get_or_default, take_rest}
use Rattle.std.specs.List.{All, Contains}
use Rattle.oct_code.specs.Code.{Code}
use Rattle.oct_window.specs.declared.place.Place.{Place}
use Rattle.oct_window.specs.declared.place.Seen.{Seen}
use Rattle.oct_window.specs.declared.place.Stage.{Stage}
use Rattle.oct_window.specs.declared.place.Stage.TheVariants.{Comparing, Watching}
use Rattle.oct_window.specs.declared.reader.Reader.{Reader}
use Rattle.oct_window.specs.declared.watch.Watch.{Watch}
use Rattle.oct_window.specs.declared.window.Window.{Window}
use Rattle.oct_saved.specs.Numbers.{listing, mask_numbers, place_numbers, place_scalars, seen_lists, stage_lists, watch_lists, window_lists, window_scalars}
use Rattle.oct_saved.specs.Reading.{AreScalars, Begins, BeginsWithList, IsCodeOf, IsPlaceShaped, IsReaderOf, IsSeenOf, IsStageOf, IsWatchOf, IsWindowBy, IsWindowOf, RefusesIf}
use Rattle.oct_saved.specs.Saved.{IsCodedStage}
use Rattle.oct_saved.specs.declared.error.ReadError.{ReadError}
use Rattle.oct_saved.specs.declared.error.ReadError.TheVariants.{OutOfMemory, Refused, Version}
use Rattle.oct_saved.specs.declared.scalars.Scalars.{Scalars}
use Rattle.oct_saved.proofs.Same.{same_code, same_listings, same_lists, same_mask}

-- what is refused for more is refused for less
pub refuses_more : (e : ReadError) (P Q : Type 0) → (Q → P) → RefusesIf e P → RefusesIf e Q
refuses_more Version P Q by is = is
refuses_more Refused P Q by is = λ q. is (by q)
refuses_more OutOfMemory P Q by is = tt

-- a list is read, and others stand behind it
pub list_read : (old xs new ys further rest : List ℕ) → old ≡ listing xs ++ new → old ≡ (listing ys ++ further) ++ rest → (xs ≡ ys) × (new ≡ further ++ rest)
list_read old xs new ys further rest read front =
    same_listings xs ys new (further ++ rest) (sym read ∙ front ∙ append_assoc (listing ys) further rest)

-- each number of a list satisfies what holds of what it contains
pub all_contained : (P : ℕ → Type 0) (xs : List ℕ) → ((x : ℕ) → Contains xs x → P x) → All P xs
all_contained P xs holds = λ k d lt. holds (get_or xs k d) (k, lt, get_or_default xs k (get_or xs k d) d lt)

pub contained_all : (P : ℕ → Type 0) (xs : List ℕ) → All P xs → (x : ℕ) → Contains xs x → P x
contained_all P xs holds x is = subst P is.2 (holds is.0 x is.1)

pub if_refuses_more : {T : Type 0} (r : Result T ReadError) (P Q : Type 0) → (Q → P) → IfErr r (λ e. RefusesIf e P) → IfErr r (λ e. RefusesIf e Q)
if_refuses_more (Ok x) P Q by is = is
if_refuses_more (Err e) P Q by is = refuses_more e P Q by is

-- ---- windows

pub window_by : {A : Type 0} (c : Code) (s : Scalars) (numbers old heaps new held newer : List ℕ) → AreScalars numbers s → old ≡ listing heaps ++ new → new ≡ listing held ++ newer
    → Begins {X = Window A} window_lists (IsWindowOf c numbers) old → (w : Window A) × IsWindowBy c s heaps held w
window_by c s numbers old heaps new held newer are first second begins =
    let w = begins.value in
    let spelled : window_scalars w ≡ s.reach ∷ s.count ∷ mask_numbers s.mask = begins.is.scalars ∙ are.spelled in
    let one = list_read old heaps new w.rare.heaps.items (listing w.held.items) begins.rest first begins.front in
    let two = same_listings held w.held.items newer begins.rest (sym second ∙ one.1) in (
      w,
      record {
        shaped = begins.is.shaped;
        code = begins.is.code;
        reach = cc;
        count = cc;
        mask = same_mask w.rare.mask s.mask cc;
        heaps = sym one.0;
        held = sym two.0;
      },
    )

-- ---- readers

-- what a pattern leaves of a list behind its first k items
abbrev pub behind : ℕ → List ℕ → List ℕ
behind k xs = take (length xs - k) (drop k xs)

abbrev reader_lists : {A : Type 0} → Reader A → List ℕ
reader_lists r = window_lists r.window

pub reader_window : {A : Type 0} (c : Code) (numbers old : List ℕ) → Begins {X = Reader A} reader_lists (IsReaderOf c numbers) old → Begins {X = Window A} window_lists (IsWindowOf c (behind 1 numbers)) old
reader_window c numbers old begins = record {
  value = begins.value.window;
  rest = begins.rest;
  is = record { shaped = begins.is.shaped; code = begins.is.code; mask = begins.is.mask; scalars = ap (drop 1) begins.is.scalars ∙ sym (take_rest numbers 1) };
  front = begins.front;
}

-- ---- watches

pub first_of : (xs : List ℕ) → 1 ≤ length xs → slice_index xs 0 ∷ behind 1 xs ≡ xs
first_of xs lt = ap (λ (ys : List ℕ). slice_index xs 0 ∷ ys) (take_rest xs 1) ∙ whole xs lt
  where
    whole : (ys : List ℕ) → 1 ≤ length ys → slice_index ys 0 ∷ drop 1 ys ≡ ys
    whole [] few = absurd (omega arith)
    whole (a ∷ ys) few = refl

pub watch_window : {A : Type 0} (c : Code) (numbers old : List ℕ) → Begins {X = Watch A} watch_lists (IsWatchOf c numbers) old → Begins {X = Window A} window_lists (IsWindowOf c (behind 1 numbers)) old
watch_window c numbers old begins =
    let w = begins.value in
    record {
      value = w.window;
      rest = listing w.mark.items ++ begins.rest;
      is = record { shaped = begins.is.shaped; code = begins.is.code; mask = begins.is.fits.mask; scalars = ap (drop 1) begins.is.scalars ∙ sym (take_rest numbers 1) };
      front = begins.front ∙ append_assoc (window_lists w.window) (listing w.mark.items) begins.rest;
    }

-- the marked values that stand behind a window
pub watch_mark : {A : Type 0} (c : Code) (v : Window A) (numbers old new : List ℕ) → old ≡ window_lists v ++ new → (b : Begins {X = Watch A} watch_lists (IsWatchOf c numbers) old)
    → new ≡ listing b.value.mark.items ++ b.rest
watch_mark c v numbers old new read b =
    let w = b.value in
    let mark = listing w.mark.items in
    (same_lists v w.window new (mark ++ b.rest) (sym read ∙ b.front ∙ append_assoc (window_lists w.window) mark b.rest)).1

pub watch_listed : {A : Type 0} (c : Code) (v : Window A) (numbers old new : List ℕ) → old ≡ window_lists v ++ new → Begins {X = Watch A} watch_lists (IsWatchOf c numbers) old → BeginsWithList new
watch_listed c v numbers old new read b = record { value = b.value.mark.items; rest = b.rest; is = tt; front = watch_mark c v numbers old new read b }

pub watch_small : {A : Type 0} (c : Code) (v : Window A) (numbers old new mark newer : List ℕ) → old ≡ window_lists v ++ new → new ≡ listing mark ++ newer
    → Begins {X = Watch A} watch_lists (IsWatchOf c numbers) old → All (λ n. n < 2 ^ 16) mark
watch_small c v numbers old new mark newer read listed b =
    let same = same_listings b.value.mark.items mark b.rest newer (sym (watch_mark c v numbers old new read b) ∙ listed) in
    subst (λ (xs : List ℕ). All (λ n. n < 2 ^ 16) xs) same.0 b.is.fits.mark

-- ---- comparisons

pub first_four : (xs : List ℕ) → 4 ≤ length xs → slice_index xs 0 ∷ slice_index xs 1 ∷ slice_index xs 2 ∷ slice_index xs 3 ∷ drop 4 xs ≡ xs
first_four [] lt = absurd (omega arith)
first_four (a ∷ []) lt = absurd (omega arith)
first_four (a ∷ b ∷ []) lt = absurd (omega arith)
first_four (a ∷ b ∷ c ∷ []) lt = absurd (omega arith)
first_four (a ∷ b ∷ c ∷ d ∷ xs) lt = refl

pub seen_first : {A : Type 0} (c : Code) (numbers part old : List ℕ) → part ≡ take 6 (behind 4 numbers) → Begins {X = Seen A} seen_lists (IsSeenOf c numbers) old
    → Begins {X = Reader A} reader_lists (IsReaderOf c part) old
seen_first c numbers part old is begins =
    let k = begins.value.comparison in
    record {
      value = k.first;
      rest = window_lists k.second.window ++ begins.rest;
      is = record { shaped = begins.is.first; code = begins.is.first_code; mask = begins.is.fits.first; scalars = ap (λ (xs : List ℕ). take 6 (drop 4 xs)) begins.is.scalars ∙ ap (take 6) (sym (take_rest numbers 4)) ∙ sym is };
      front = begins.front ∙ append_assoc (window_lists k.first.window) (window_lists k.second.window) begins.rest;
    }

pub seen_second : {A : Type 0} (c : Code) (v : Window A) (numbers part old new : List ℕ) → part ≡ drop 6 (behind 4 numbers) → old ≡ window_lists v ++ new → Begins {X = Seen A} seen_lists (IsSeenOf c numbers) old
    → Begins {X = Reader A} reader_lists (IsReaderOf c part) new
seen_second c v numbers part old new is read begins =
    let k = begins.value.comparison in
    let further = window_lists k.second.window in
    record {
      value = k.second;
      rest = begins.rest;
      is = record { shaped = begins.is.second; code = begins.is.second_code; mask = begins.is.fits.second; scalars = ap (λ (xs : List ℕ). drop 6 (drop 4 xs)) begins.is.scalars ∙ ap (drop 6) (sym (take_rest numbers 4)) ∙ sym is };
      front = (same_lists v k.first.window new (further ++ begins.rest) (sym read ∙ begins.front ∙ append_assoc (window_lists k.first.window) further begins.rest)).1;
    }

-- ---- stages

watching : {A : Type 0} (c : Code) (which : ℕ) (numbers old rest : List ℕ) (s : Stage A) → which ≡ 0 → IsStageOf c which numbers s → old ≡ stage_lists s ++ rest → Begins {X = Watch A} watch_lists (IsWatchOf c numbers) old
watching c which numbers old rest (Watching w) kind is front =
    record { value = w; rest = rest; is = record { shaped = is.shaped; code = is.coded; fits = is.fits; scalars = is.scalars }; front = front }
watching c which numbers old rest (Comparing s) kind is front = absurd (omega (arith, is.kind))

comparing : {A : Type 0} (c : Code) (which : ℕ) (numbers old rest : List ℕ) (s : Stage A) → which ≡ 1 → IsStageOf c which numbers s → old ≡ stage_lists s ++ rest → Begins {X = Seen A} seen_lists (IsSeenOf c numbers) old
comparing c which numbers old rest (Watching w) kind is front = absurd (omega (arith, is.kind))
comparing c which numbers old rest (Comparing s) kind is front =
    record {
      value = s;
      rest = rest;
      is = record { first = is.shaped.0; second = is.shaped.1; first_code = is.coded.0; second_code = is.coded.1; fits = is.fits; scalars = is.scalars };
      front = front;
    }

pub stage_watching : {A : Type 0} (c : Code) (which : ℕ) (numbers old : List ℕ) → which ≡ 0 → Begins {X = Stage A} stage_lists (IsStageOf c which numbers) old → Begins {X = Watch A} watch_lists (IsWatchOf c numbers) old
stage_watching c which numbers old kind b = watching c which numbers old b.rest b.value kind b.is b.front

pub stage_comparing : {A : Type 0} (c : Code) (which : ℕ) (numbers old : List ℕ) → which ≡ 1 → Begins {X = Stage A} stage_lists (IsStageOf c which numbers) old → Begins {X = Seen A} seen_lists (IsSeenOf c numbers) old
stage_comparing c which numbers old kind b = comparing c which numbers old b.rest b.value kind b.is b.front

-- ---- places

apart : (a b x rest : List ℕ) → (a ++ (b ++ x)) ++ rest ≡ a ++ (b ++ (x ++ rest))
apart a b x rest = append_assoc a (b ++ x) rest ∙ ap (λ (z : List ℕ). a ++ z) (append_assoc b x rest)

pub place_listed : {A : Type 0} (old : List ℕ) → Begins {X = Place A} place_numbers IsPlaceShaped old → BeginsWithList old
place_listed old b =
    let p = b.value in
    record { value = place_scalars p; rest = listing p.code.digits ++ (stage_lists p.stage ++ b.rest); is = tt; front = b.front ∙ apart (listing (place_scalars p)) (listing p.code.digits) (stage_lists p.stage) b.rest }

pub place_scalars_read : {A : Type 0} (old scalars new : List ℕ) → old ≡ listing scalars ++ new → (b : Begins {X = Place A} place_numbers IsPlaceShaped old)
    → (scalars ≡ place_scalars b.value) × (new ≡ listing b.value.code.digits ++ (stage_lists b.value.stage ++ b.rest))
place_scalars_read old scalars new read b =
    let p = b.value in
    same_listings scalars (place_scalars p) new (listing p.code.digits ++ (stage_lists p.stage ++ b.rest)) (sym read ∙ b.front ∙ apart (listing (place_scalars p)) (listing p.code.digits) (stage_lists p.stage) b.rest)

pub place_digits_listed : {A : Type 0} (old scalars new : List ℕ) → old ≡ listing scalars ++ new → Begins {X = Place A} place_numbers IsPlaceShaped old → BeginsWithList new
place_digits_listed old scalars new read b =
    record { value = b.value.code.digits; rest = stage_lists b.value.stage ++ b.rest; is = tt; front = (place_scalars_read old scalars new read b).1 }

pub place_code : {A : Type 0} (old scalars new digits newer : List ℕ) → old ≡ listing scalars ++ new → new ≡ listing digits ++ newer → Begins {X = Place A} place_numbers IsPlaceShaped old
    → (c : Code) × IsCodeOf (slice_index scalars 1) digits c
place_code old scalars new digits newer read more b =
    let first = place_scalars_read old scalars new read b in
    let second = same_listings digits b.value.code.digits newer (stage_lists b.value.stage ++ b.rest) (sym more ∙ first.1) in
    (b.value.code, record { valid = b.is.code; head = sym (ap (λ (xs : List ℕ). slice_index xs 1) first.0); digits = sym second.0 })

pub place_stage : {A : Type 0} (code : Code) (old scalars new digits newer : List ℕ) → old ≡ listing scalars ++ new → new ≡ listing digits ++ newer → IsCodeOf (slice_index scalars 1) digits code
    → Begins {X = Place A} place_numbers IsPlaceShaped old → Begins {X = Stage A} stage_lists (IsStageOf code (slice_index scalars 0) (behind 3 scalars)) newer
place_stage code old scalars new digits newer read more coded b =
    let p = b.value in
    let first = place_scalars_read old scalars new read b in
    let second = same_listings digits p.code.digits newer (stage_lists p.stage ++ b.rest) (sym more ∙ first.1) in
    let head : p.code.head ≡ code.head = sym (ap (λ (xs : List ℕ). slice_index xs 1) first.0) ∙ sym coded.head in
    let behind : p.code.digits ≡ code.digits = sym second.0 ∙ sym coded.digits in
    let same = same_code p.code code head behind in
    record {
      value = p.stage;
      rest = b.rest;
      is = record {
        shaped = b.is.shaped;
        coded = subst (λ (c : Code). IsCodedStage c p.stage) same b.is.coded;
        fits = b.is.fits;
        kind = sym (ap (λ (xs : List ℕ). slice_index xs 0) first.0);
        scalars = sym (take_rest scalars 3 ∙ ap (drop 3) first.0);
      };
      front = second.1;
    }
