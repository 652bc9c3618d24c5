-- What is so of a place is so of another one that has the same numbers.
use Rattle.std.proofs.Common.{◌≡◌, ℕ, ◌+◌, ◌-◌, ◌<◌, ◌≤◌, ◌⊎◌, inl, inr, false, List, length, sym, ◌∙◌, ap, subst, arith}
use Rattle.std.specs.Vec.{vec_len}
use Rattle.oct_code.specs.Code.{Code}
use Rattle.oct_mex.specs.NimValues.{nim_value}
use Rattle.oct_mex.specs.Periods.{IsPeriodicWithin}
use Rattle.oct_mex.specs.Rare.{is_rare, IsFit, ListsRare}
use Rattle.oct_mex.specs.Windows.{IsHeld}
use Rattle.oct_mex.specs.declared.mask.Mask.{Mask}
use Rattle.oct_window.specs.Comparisons.{IsRight}
use Rattle.oct_window.specs.Places.{farthest, IsKept, IsSeen, IsStaged, IsStageOf, IsWatchedIn, marked}
use Rattle.oct_window.specs.Repeats.{IsRepeat}
use Rattle.oct_window.specs.Watched.{AreMarked, IsMarkAt}
use Rattle.oct_window.specs.Windows.{IsKnown, IsShaped, reach_behind}
use Rattle.oct_window.specs.declared.place.Place.{Place}
use Rattle.oct_window.specs.declared.place.Seen.{Seen}
use Rattle.oct_window.specs.declared.place.Stage.{Stage}
use Rattle.oct_window.specs.declared.place.Stage.TheVariants.{Comparing, Watching}
use Rattle.oct_window.specs.declared.reader.Reader.{Reader}
use Rattle.oct_window.specs.declared.seeking.TheConstants.{MOST_LISTED}
use Rattle.oct_window.specs.declared.watch.Watch.{Watch}
use Rattle.oct_window.specs.declared.window.TheConstants.{FARTHEST}
use Rattle.oct_window.specs.declared.window.Window.{Window}
use Rattle.oct_saved.specs.Laws.{AreAlike}
use Rattle.oct_saved.specs.Reading.{IsShapedStage}
use Rattle.oct_saved.specs.Saved.{IsCoded, IsCodedStage}
use Rattle.oct_saved.proofs.Same.{SamePlace, SameReader, SameSeen, SameStage, SameWatch, SameWindow}

-- ---- what is so of the game

record KnownBy (c : Code) (m : Mask) (r n : ℕ) (hs rs : List ℕ) : Type 0 where
  fit : IsFit c m
  held : IsHeld c r n hs
  rare : ListsRare m hs (r + 1) rs
  common : (h : ℕ) → r < h → h < n → is_rare m h (nim_value c h) ≡ false

known_moved : (c d : Code) (m k : Mask) (r s n o : ℕ) (hs vs rs qs : List ℕ) → c ≡ d → m ≡ k → r ≡ s → n ≡ o → hs ≡ vs → rs ≡ qs → KnownBy c m r n hs rs → KnownBy d k s o vs qs
known_moved c d m k r s n o hs vs rs qs code mask reach count held rare is =
    subst (λ (x : List ℕ). KnownBy d k s o vs x) rare
    (subst (λ (x : List ℕ). KnownBy d k s o x rs) held
    (subst (λ (x : ℕ). KnownBy d k s x hs rs) count
    (subst (λ (x : ℕ). KnownBy d k x n hs rs) reach
    (subst (λ (x : Mask). KnownBy d x r n hs rs) mask
    (subst (λ (x : Code). KnownBy x m r n hs rs) code is)))))

known_alike : {A B : Type 0} (v : Window A) (w : Window B) → SameWindow v w → v.code ≡ w.code → IsKnown v → IsKnown w
known_alike v w same code is =
    let by : KnownBy v.code v.rare.mask v.reach v.count v.held.items v.rare.heaps.items = record { fit = is.fit; held = is.held; rare = is.rare; common = is.common } in
    let moved = known_moved v.code w.code v.rare.mask w.rare.mask v.reach w.reach v.count w.count v.held.items w.held.items v.rare.heaps.items w.rare.heaps.items
    code same.scalars.mask same.scalars.reach same.scalars.count same.lists.held same.lists.heaps by in
    record { fit = moved.fit; held = moved.held; rare = moved.rare; common = moved.common }

marked_moved : (c d : Code) (m k : Mask) (r s a b n o : ℕ) (xs ys : List ℕ) → c ≡ d → m ≡ k → r ≡ s → a ≡ b → n ≡ o → xs ≡ ys → AreMarked c m r a n xs → AreMarked d k s b o ys
marked_moved c d m k r s a b n o xs ys code mask reach at count mark is =
    subst (λ (x : List ℕ). AreMarked d k s b o x) mark
    (subst (λ (x : ℕ). AreMarked d k s b x xs) count
    (subst (λ (x : ℕ). AreMarked d k s x n xs) at
    (subst (λ (x : ℕ). AreMarked d k x a n xs) reach
    (subst (λ (x : Mask). AreMarked d x r a n xs) mask
    (subst (λ (x : Code). AreMarked x m r a n xs) code is)))))

mark_moved : (l m a b n o : ℕ) → l ≡ m → a ≡ b → n ≡ o → IsMarkAt l a n → IsMarkAt m b o
mark_moved l m a b n o listed at count is = subst (λ (x : ℕ). IsMarkAt m b x) count (subst (λ (x : ℕ). IsMarkAt m x n) at (subst (λ (x : ℕ). IsMarkAt x a n) listed is))

reach_moved : (c d : Code) (l m r s : ℕ) → c ≡ d → l ≡ m → r ≡ s → r ≡ reach_behind c l → s ≡ reach_behind d m
reach_moved c d l m r s code listed reach is = sym reach ∙ (is ∙ (ap (λ (x : Code). reach_behind x l) code ∙ ap (λ (x : ℕ). reach_behind d x) listed))

watched_alike : {A B : Type 0} (c d : Code) (l m : ℕ) (v : Watch A) (w : Watch B) → SameWatch v w → c ≡ d → l ≡ m → w.window.code ≡ d → IsWatchedIn c l v → IsWatchedIn d m w
watched_alike c d l m v w same both listed coded is =
    let code : v.window.code ≡ w.window.code = is.code ∙ both ∙ sym coded in
    let s = same.window.scalars in
    record {
      watched = record {
        known = known_alike v.window w.window same.window code is.watched.known;
        marked = marked_moved v.window.code w.window.code v.window.rare.mask w.window.rare.mask v.window.reach w.window.reach v.at w.at v.window.count w.window.count v.mark.items w.mark.items
            code s.mask s.reach same.at s.count same.mark is.watched.marked;
      };
      code = coded;
      reach = reach_moved c d l m v.window.reach w.window.reach both listed s.reach is.reach;
      marked = mark_moved l m v.at w.at v.window.count w.window.count listed same.at s.count is.marked;
    }

right_alike : {A B : Type 0} (c d : Code) (v : Reader A) (w : Reader B) → SameReader v w → c ≡ d → w.window.code ≡ d → IsRight c v → IsRight d w
right_alike c d v w same both coded is = record {
  known = known_alike v.window w.window same.window (is.code ∙ both ∙ sym coded) is.known;
  code = coded;
}

record SeenBy (c : Code) (start period least heap : ℕ) : Type 0 where
  repeats : IsRepeat c (record { start = start; period = period })
  again : IsPeriodicWithin c least period heap
  earliest : 1 < least → nim_value c (least - 1 + period) ≡ nim_value c (least - 1) → ⊥

seen_moved : (c d : Code) (s t p q l m h k : ℕ) → c ≡ d → s ≡ t → p ≡ q → l ≡ m → h ≡ k → SeenBy c s p l h → SeenBy d t q m k
seen_moved c d s t p q l m h k code start period least heap is =
    subst (λ (x : ℕ). SeenBy d t q m x) heap
    (subst (λ (x : ℕ). SeenBy d t q x h) least
    (subst (λ (x : ℕ). SeenBy d t x l h) period
    (subst (λ (x : ℕ). SeenBy d x p l h) start
    (subst (λ (x : Code). SeenBy x s p l h) code is))))

seen_alike : {A B : Type 0} (c d : Code) (v : Seen A) (w : Seen B) → SameSeen v w → c ≡ d → IsCodedStage d (Comparing w) → IsSeen c v → IsSeen d w
seen_alike c d v w same both coded is =
    let by : SeenBy c v.start v.comparison.period v.comparison.start v.comparison.first.heap = record { repeats = is.repeats; again = is.compared.again; earliest = is.compared.earliest } in
    let moved = seen_moved c d v.start w.start v.comparison.period w.comparison.period v.comparison.start w.comparison.start v.comparison.first.heap w.comparison.first.heap
    both same.start same.period same.least same.first.heap by in
    record {
      repeats = moved.repeats;
      compared = record {
        first = right_alike c d v.comparison.first w.comparison.first same.first both coded.0 is.compared.first;
        second = right_alike c d v.comparison.second w.comparison.second same.second both coded.1 is.compared.second;
        again = moved.again;
        earliest = moved.earliest;
      };
    }

stage_alike : {A B : Type 0} (c d : Code) (l m : ℕ) (v : Stage A) (w : Stage B) → SameStage v w → c ≡ d → l ≡ m → IsCodedStage d w → IsStageOf c l v → IsStageOf d m w
stage_alike c d l m (Watching v) (Watching w) same both listed coded is = watched_alike c d l m v w same both listed coded is
stage_alike c d l m (Watching v) (Comparing w) same both listed coded is = absurd same
stage_alike c d l m (Comparing v) (Watching w) same both listed coded is = absurd same
stage_alike c d l m (Comparing v) (Comparing w) same both listed coded is = seen_alike c d v w same both coded is

farthest_alike : {A B : Type 0} (v : Stage A) (w : Stage B) → SameStage v w → farthest v ≡ farthest w
farthest_alike (Watching v) (Watching w) same = same.window.scalars.count
farthest_alike (Watching v) (Comparing w) same = absurd same
farthest_alike (Comparing v) (Watching w) same = absurd same
farthest_alike (Comparing v) (Comparing w) same = same.values

pub places_alike : {A B : Type 0} (p : Place A) (q : Place B) → SamePlace p q → IsCoded q → AreAlike p q
places_alike p q same coded = record {
  code = same.code;
  listed = same.listed;
  farthest = farthest_alike p.stage q.stage same.stage;
  right = stage_alike p.code q.code p.listed q.listed p.stage q.stage same.stage same.code same.listed coded;
}

-- ---- what fits together

record KeptAt {A : Type 0} (listed : ℕ) (s : Stage A) : Type 0 where
  few : listed < MOST_LISTED
  staged : IsStaged listed s
  listed_in : listed < farthest s
  marked_in : marked s < farthest s
  limited : farthest s ≤ FARTHEST

watch_kept : {A B : Type 0} (l m : ℕ) (v : Watch A) (w : Watch B) → SameWatch v w → l ≡ m → v.window.code ≡ w.window.code → IsShaped w.window → KeptAt l (Watching v) → KeptAt m (Watching w)
watch_kept l m v w same both code shaped is =
    let k = is.staged.watchable in
    let s = same.window.scalars in
    let digits : length v.window.code.digits ≡ length w.window.code.digits = ap (λ (c : Code). length c.digits) code in
    let len : vec_len v.mark ≡ vec_len w.mark = v.mark.ok.0 ∙ ap length same.mark ∙ sym w.mark.ok.0 in
    record {
      few = omega (arith, is.few);
      staged = record {
        watchable = record {
          shaped = shaped;
          size = omega (arith, k.size, digits, len, s.reach);
          behind = omega (arith, k.behind, digits, s.reach, same.at);
          passed = omega (arith, k.passed, s.count, same.at);
          fresh = omega (arith, k.fresh, s.count, same.at);
        };
        behind = omega (arith, is.staged.behind, s.count);
      };
      listed_in = omega (arith, is.listed_in, s.count);
      marked_in = omega (arith, is.marked_in, s.count, same.at);
      limited = omega (arith, is.limited, s.count);
    }

turn_alike : (h k i j p q : ℕ) → h ≡ k → i ≡ j → p ≡ q → ((h ≡ 0) × (i ≤ p)) ⊎ (i ≡ h + p) → ((k ≡ 0) × (j ≤ q)) ⊎ (j ≡ k + q)
turn_alike h k i j p q a b c (inl is) = inl (omega arith, omega arith)
turn_alike h k i j p q a b c (inr is) = inr (omega arith)

seen_kept : {A B : Type 0} (l m : ℕ) (v : Seen A) (w : Seen B) → SameSeen v w → l ≡ m → IsShapedStage (Comparing w) → KeptAt l (Comparing v) → KeptAt m (Comparing w)
seen_kept l m v w same both shaped is =
    let k = is.staged in
    let a = same.first.window.scalars in
    let b = same.second.window.scalars in
    record {
      few = omega (arith, is.few);
      staged = record {
        paired = record {
          first = record { shaped = shaped.0; count = omega (arith, k.paired.first.count, a.count, same.first.heap) };
          second = record { shaped = shaped.1; count = omega (arith, k.paired.second.count, b.count, same.second.heap) };
          some = omega (arith, k.paired.some, same.least);
          within = omega (arith, k.paired.within, same.least, same.first.heap);
        };
        turn = turn_alike _ _ _ _ _ _ same.first.heap same.second.heap same.period k.turn;
        some = omega (arith, k.some, same.start);
        below = omega (arith, k.below, same.first.heap, same.start);
        within = omega (arith, k.within, same.start, same.period, same.values);
        behind = omega (arith, k.behind, same.values);
      };
      listed_in = omega (arith, is.listed_in, same.values);
      marked_in = omega (arith, is.marked_in, same.values);
      limited = omega (arith, is.limited, same.values);
    }

stage_kept : {A B : Type 0} (c d : Code) (l m : ℕ) (v : Stage A) (w : Stage B) → SameStage v w → c ≡ d → l ≡ m → IsCodedStage c v → IsCodedStage d w → IsShapedStage w → KeptAt l v → KeptAt m w
stage_kept c d l m (Watching v) (Watching w) same code both coded also shaped is = watch_kept l m v w same both (coded ∙ code ∙ sym also) shaped is
stage_kept c d l m (Watching v) (Comparing w) same code both coded also shaped is = absurd same
stage_kept c d l m (Comparing v) (Watching w) same code both coded also shaped is = absurd same
stage_kept c d l m (Comparing v) (Comparing w) same code both coded also shaped is = seen_kept l m v w same both shaped is

pub kept_alike : {A B : Type 0} (p : Place A) (q : Place B) → SamePlace p q → IsCoded p → IsCoded q → IsShapedStage q.stage → IsKept p → IsKept q
kept_alike p q same coded also shaped is =
    let at : KeptAt p.listed p.stage = record { few = is.placed.few; staged = is.placed.staged; listed_in = is.within.listed; marked_in = is.within.marked; limited = is.limited } in
    let moved = stage_kept p.code q.code p.listed q.listed p.stage q.stage same.stage same.code same.listed coded also shaped at in
    record {
      placed = record { few = moved.few; staged = moved.staged };
      within = record { listed = moved.listed_in; marked = moved.marked_in; farthest = omega arith };
      limited = moved.limited;
    }
