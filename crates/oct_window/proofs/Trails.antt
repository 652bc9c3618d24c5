-- The windows that a search has passed.
use Rattle.std.proofs.Common.{◌≡◌, ◌≢◌, ℕ, ◌+◌, ◌-◌, ◌%◌, ◌<◌, ◌≤◌, ◌++◌, ◌∷◌, [], true, false, List, length, length-append, slice_index, slice_index_or, refl, inl, inr, sym, ap, subst, subst₂, ◌∙◌, arith}
use Rattle.std.proofs.lemmas.Bool.{cases_lt}
use Rattle.std.proofs.lemmas.List.{get_or_append_left, get_or-append_right, get_or_default}
use Rattle.std.specs.List.{All, HoldsAt}
use Rattle.oct_code.specs.Code.{Code}
use Rattle.oct_mex.specs.NimValues.{nim_value}
use Rattle.oct_mex.specs.Periods.{IsPeriodicFrom, IsPeriodicWithin}
use Rattle.oct_mex.specs.Rare.{is_rare, IsFit}
use Rattle.oct_mex.specs.Windows.{IsRun, IsSettled, window}
use Rattle.oct_mex.specs.declared.mask.Mask.{Mask}
use Rattle.oct_mex.proofs.Windows.{settled_runs_hold}
use Rattle.oct_window.specs.Places.{farthest, IsRightStagedTrail, IsSaidOf, IsStagedTrail, IsWatchedIn}
use Rattle.oct_window.specs.Repeats.{IsRepeat}
use Rattle.oct_window.specs.Seeking.{told_values}
use Rattle.oct_window.specs.Trails.{AreSettled, IsRightTrail, IsTrailOf}
use Rattle.oct_window.specs.Watched.{IsMarkAt, IsWatched}
use Rattle.oct_window.specs.Windows.{IsKnown, IsSameGame}
use Rattle.oct_window.specs.declared.place.Place.{Place}
use Rattle.oct_window.specs.declared.place.Stage.{Stage}
use Rattle.oct_window.specs.declared.place.Stage.TheVariants.{Comparing, Watching}
use Rattle.oct_window.specs.declared.sought.Sought.{Sought}
use Rattle.oct_window.specs.declared.sought.Sought.TheVariants.{Least, Unseen, Unshown}
use Rattle.oct_window.specs.declared.trail.Trail.{Trail}
use Rattle.oct_window.specs.declared.watch.Watch.{Watch}
use Rattle.oct_window.specs.declared.window.Window.{Window}
use Rattle.oct_window.proofs.Watching.{even_apart}

-- ---- settled heaps

pub same_settled : (c d : Code) (mask other : Mask) (reach far n m : ℕ) → d ≡ c → other ≡ mask → far ≡ reach → m ≡ n → IsSettled c mask reach n → IsSettled d other far m
same_settled c d mask other reach far n m code masks reaches heap settled =
    subst (λ k. IsSettled k other far m) (sym code) (subst₂ (λ o r. IsSettled c o r m) (sym masks) (sym reaches) (subst (IsSettled c mask reach) (sym heap) settled))

module _ {A : Type 0} where
  -- by one heap
  pub one_settled : (v w : Window A) → IsSameGame v w → w.count ≤ v.count + 1 → IsSettled v.code v.rare.mask v.reach v.count → AreSettled v.count w
  one_settled v w same one settled n high low = same_settled v.code w.code v.rare.mask w.rare.mask v.reach w.reach v.count n same.code same.mask same.reach (omega arith) settled

  -- by those of a window that has gone on
  pub settled_further : (from : ℕ) (v w : Window A) → IsSameGame v w → AreSettled from v → AreSettled v.count w → AreSettled from w
  settled_further from v w same before after n high low = elim (cases_lt n v.count) [
    | inl near ↦ same_settled v.code w.code v.rare.mask w.rare.mask v.reach w.reach n n same.code same.mask same.reach (omega arith) (before n high near)
    | inr far ↦ after n far low
  ]

  -- ---- a trail, where the window has gone on

  pub trail_further : (listed : ℕ) (v w : Window A) (t : Trail A) → IsSameGame v w → v.count ≤ w.count → IsTrailOf listed v t → IsTrailOf listed w t
  trail_further listed v w t same on trail k d less =
      let it = trail k d less in
      record {
        shaped = it.shaped;
        same = record { code = it.same.code ∙ sym same.code; mask = it.same.mask ∙ sym same.mask; reach = it.same.reach ∙ sym same.reach };
        far = it.far;
        behind = it.behind;
        passed = omega (arith, it.passed);
      }

  pub right_further : (v w : Window A) (t : Trail A) → IsSameGame v w → AreSettled v.count w → IsRightTrail v t → IsRightTrail w t
  right_further v w t same settled trail k d less =
      let it = trail k d less in
      record { known = it.known; settled = settled_further _ v w same it.settled settled }

  -- ---- what the windows of a trail are

  pub no_further : (windows : List (Window A)) (from last heap : ℕ) (v w : Window A) → v ≡ slice_index_or windows from v → from < length windows → v.count ≤ heap
      → (HoldsAt (λ u. u.count ≤ heap) windows from → HoldsAt (λ u. u.count ≤ heap) windows last) → w ≡ slice_index_or windows last w → w.count ≤ heap
  no_further windows from last heap v w first held low on second =
      subst (λ (u : Window A). u.count ≤ heap) (sym second) (on (λ d. subst (λ (u : Window A). u.count ≤ heap) (first ∙ get_or_default windows from v d held) low) w)

  pub known_of : (now w : Window A) → IsSameGame now w → IsKnown w
      → (IsFit now.code now.rare.mask) × ((h : ℕ) → now.reach < h → h < w.count → is_rare now.rare.mask h (nim_value now.code h) ≡ false)
  known_of now w same known = (
    subst₂ IsFit same.code same.mask known.fit,
    λ h high low. subst₂ (λ m k. is_rare m h (nim_value k h) ≡ false) same.mask same.code (known.common h (omega (arith, same.reach)) low),
  )

  -- ---- a watch whose window is the same but for what it has forgotten

  pub still_in : (c : Code) (listed : ℕ) (old new : Watch A) → IsSameGame old.window new.window → new.window.count ≡ old.window.count → new.at ≡ old.at → IsWatched new
      → IsWatchedIn c listed old → IsWatchedIn c listed new
  still_in c listed old new same count at watched is = record {
    watched = watched;
    code = same.code ∙ is.code;
    reach = same.reach ∙ is.reach;
    marked = subst₂ (λ a n. IsMarkAt listed a n) (sym at) (sym count) is.marked;
  }

  -- ---- the windows that go with a place

  pub goes_with : (listed : ℕ) (stage : Stage A) (t : Trail A) → ((n : ℕ) (now : Window A) → IsTrailOf n now t) → IsStagedTrail listed stage t
  goes_with listed (Watching w) t of = of listed w.window
  goes_with listed (Comparing s) t of = tt

  pub goes_rightly_with : (stage : Stage A) (t : Trail A) → ((now : Window A) → IsRightTrail now t) → IsRightStagedTrail stage t
  goes_rightly_with (Watching w) t right = right w.window
  goes_rightly_with (Comparing s) t right = tt

  -- what is said of a place is by no fewer values than it knows
  pub said_far : (p : Place A) (sought : Sought) → IsSaidOf p sought → farthest p.stage ≤ told_values sought
  said_far p (Least seen values) is = omega arith
  said_far p (Unshown values) is = absurd is
  said_far p (Unseen values listed) is = omega (arith, is.0)

-- ---- one more element

pub all_more : {X : Type 0} (P : X → Type 0) (xs ys : List X) (x : X) → ys ≡ xs ++ x ∷ [] → All P xs → P x → All P ys
all_more P xs ys x is all one k d less = subst (λ zs. P (slice_index_or zs k d)) (sym is) (elim (cases_lt k (length xs)) [
  | inl below ↦ subst P (sym (get_or_append_left xs (x ∷ []) d k below)) (all k d below)
  | inr above ↦
      let size : length ys ≡ length xs + 1 = ap length is ∙ omega (arith, length-append xs (x ∷ [])) in
      let here : k - length xs ≡ 0 = omega arith in
      subst P (sym (get_or-append_right xs (x ∷ []) (length xs) k d refl above ∙ ap (λ i. slice_index_or (x ∷ []) i d) here)) one
])

-- ---- the last values of a window of the game

pub last_of_game : (c d : Code) (reach far count heap : ℕ) (last : List ℕ) → d ≡ c → far ≡ reach → count ≡ heap
    → ((i : ℕ) → i < window d far → slice_index last i ≡ nim_value d (count - window d far + i)) → (i : ℕ) → i < window c reach → slice_index last i ≡ nim_value c (heap - window c reach + i)
last_of_game c d reach far count heap last code reaches here values =
    subst (λ n. (i : ℕ) → i < window c reach → slice_index last i ≡ nim_value c (n - window c reach + i)) here
    (subst₂ (λ k r. (i : ℕ) → i < window k r → slice_index last i ≡ nim_value k (count - window k r + i)) code reaches values)

-- ---- two windows a period apart

module _ (c : Code) (width heap period : ℕ) (left right : List ℕ) (fits : width ≤ heap)
    (first : (i : ℕ) → i < width → slice_index left i ≡ nim_value c (heap - width + i))
    (second : (i : ℕ) → i < width → slice_index right i ≡ nim_value c (heap + period - width + i)) where
  pub again_from : (at start : ℕ) → start ≡ heap - width + at → ((i : ℕ) → at ≤ i → i < width → slice_index left i ≡ slice_index right i) → IsPeriodicWithin c start period heap
  again_from at start is same n high low =
      let i = n - (heap - width) in
      let here : heap - width + i ≡ n = omega arith in
      let there : n + period ≡ heap + period - width + i = omega arith in
      ap (nim_value c) there ∙ sym (second i (omega arith)) ∙ sym (same i (omega arith) (omega arith)) ∙ first i (omega arith) ∙ ap (nim_value c) here

  pub differ_at : (at heap_at : ℕ) → heap_at ≡ heap - width + at → at < width → slice_index left at ≢ slice_index right at → nim_value c (heap_at + period) ≢ nim_value c heap_at
  differ_at at heap_at is within differ again =
      let there : heap + period - width + at ≡ heap_at + period = omega arith in
      differ (first at within ∙ ap (nim_value c) (sym is) ∙ sym again ∙ ap (nim_value c) (sym there) ∙ sym (second at within))

-- ---- a window whose values come again a period later, all heaps between which are settled

pub repeats_behind : (c : Code) (mask : Mask) (reach heap period start from : ℕ) → IsRepeat c (record { start = start; period = period }) → from ≡ heap - window c reach → reach + window c reach < heap → 1 ≤ reach
    → IsFit c mask → ((h : ℕ) → reach < h → h < heap + period → is_rare mask h (nim_value c h) ≡ false) → ((n : ℕ) → heap ≤ n → n < heap + period → IsSettled c mask reach n)
    → IsPeriodicWithin c from period heap → IsRepeat c (record { start = from; period = period })
repeats_behind c mask reach heap period start from repeats is far some fit common settled again =
    let h = heap - 1 in
    let same : nim_value c (h + period) ≡ nim_value c h = again h (omega arith) (omega arith) in
    let even : mask.parity ≡ true → period % 2 ≡ 0 =
    even_apart mask h period (nim_value c h) (common h (omega arith) (omega arith)) (subst (λ v. is_rare mask (h + period) v ≡ false) same (common (h + period) (omega arith) (omega arith))) in
    let run : IsRun c mask reach heap period = record {
      fit = fit;
      some = repeats.some;
      even = even;
      room = omega arith;
      common = λ k high low. common k high (omega arith);
      settled = settled;
      windows = subst (λ f. IsPeriodicWithin c f period heap) is again;
    } in
    record {
      first = omega arith;
      some = repeats.some;
      holds = subst (λ f. IsPeriodicFrom c f period) (sym is) (settled_runs_hold c mask reach heap period run);
      least = repeats.least;
    }

-- a period holds from a later heap on
pub repeats_later : (c : Code) (period start later : ℕ) → start ≤ later → IsRepeat c (record { start = start; period = period }) → IsRepeat c (record { start = later; period = period })
repeats_later c period start later less repeats = record {
  first = omega (arith, repeats.first);
  some = repeats.some;
  holds = λ n high. repeats.holds n (omega arith);
  least = repeats.least;
}
