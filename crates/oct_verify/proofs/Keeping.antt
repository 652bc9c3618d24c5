-- What an entry that is judged, or filed, leaves of the order and the known length.
use Rattle.std.proofs.Common.{◌≡◌, ℕ, ◌+◌, ◌<◌, ◌≤◌, max, true, ◌||◌, List, ◌∷◌, length, get_or, set, refl, sym, ap, subst, ◌∙◌, arith, inl, inr}
use Rattle.std.specs.List.{All, AllPairs, insert}
use Rattle.std.specs.declared.cmp.Ordering.TheVariants.{Less, Equal, Greater}
use Rattle.std.proofs.lemmas.List.{get_or_default, length-set, length-map, get_or-map, get_or-set_same}
use Rattle.std.proofs.lemmas.List.Elements.{AllWithin-more_set}
use Rattle.std.proofs.lemmas.List.Edits.{length-insert}
use Rattle.std.proofs.lemmas.List.Folds.{list_any_at, Any-from_list_any}
use Rattle.std.proofs.lemmas.List.Sorted.{list_any-IsPermutation, IsPermutation-insert}
use Rattle.std.proofs.lemmas.Bool.{cases_lt, or_left, or_right, false_from_ne_true}
use Rattle.std.specs.Ordering.{nat_cmp, ordering_then, then_cmp, on}
use Rattle.std.proofs.lemmas.Cmp.{ranked}
use Rattle.oct_code.specs.Code.{Code}
use Rattle.oct_ops.specs.DotOrder.{dot_cmp}
use Rattle.oct_ops.specs.Operation.{Block}
use Rattle.oct_ops.specs.Order.{block_cmp}
use Rattle.oct_ops.specs.Sets as sets
use Rattle.oct_verify.specs.Filed.{Filed}
use Rattle.oct_verify.specs.Filing.{Filing, filing_cmp}
use Rattle.oct_verify.specs.Kept.{Fits, IsGap, filing_of, listed, blocks_of, filings_of, grown, IsSettled, IsCovered, IsSettling, AreParked}
use Rattle.oct_verify.specs.Known.{end, is_true, shows, is_shown, verdict, IsKnownLength}
use Rattle.oct_verify.specs.declared.status.Status.{Status}
use Rattle.oct_verify.specs.declared.status.Status.TheVariants.{Proved, Refuted, Pending}
use Rattle.oct_verify.proofs.Filings.{set_of-insert}
use Rattle.oct_verify.proofs.KnownLaws.{shows-place, shown-by}
use Rattle.chunked.proofs.Lists.{AllWithin-insert, AllWithin-insert_before, AllWithin-insert_after, All-insert, AllPairs-insert, map-insert, AllWithin-set_before, map-set_same}
use Rattle.oct_verify.proofs.Verdicts.{verdict_cases, proved, refuted, proved_from_true}

-- a known length grows
pub grown_up : (s : Status) (known end : ℕ) → known ≤ grown s known end
grown_up Proved known end = omega arith
grown_up (Refuted a c t) known end = omega arith
grown_up Pending known end = omega arith

settled_more : (known more : ℕ) (e : Filed) → known ≤ more → IsSettled known e → IsSettled more e
settled_more known more e le h = record { reached = omega (arith, h.reached); judged = h.judged; counted = λ right. omega (arith, h.counted right) }

-- an entry that was judged is settled
settled_judged : (known : ℕ) (e : Filed) → e.block.start ≤ known → e.status ≡ verdict e.block → IsSettled (grown e.status known (end e.block)) e
settled_judged known e le judged = record {
  reached = omega (arith, grown_up e.status known (end e.block));
  judged = judged;
  counted = λ right. rw (judged, proved_from_true e.block right) (omega arith);
}

-- and what it shows is known
covered_judged : (bs : List Block) (known : ℕ) (b : Block) (status : Status) → b.start ≤ known → status ≡ verdict b
    → ((n : ℕ) → shows n b ≡ true → is_shown bs n ≡ true) → IsCovered bs known → IsCovered bs (grown status known (end b))
covered_judged bs known b status le judged there h n from lt = elim (cases_lt n known) [
  | inl old ↦ h n from old
  | inr new ↦ elim (verdict_cases b) [
    | proved p right just ↦ let lt' = rw (judged ∙ p) at lt in there n (shows-place b n (omega arith) (omega arith) right)
    | refuted m p wrong least ↦ let lt' = rw (judged ∙ p) at lt in absurd (omega arith)
  ]
]

-- one block more
shown-insert : (bs : List Block) (at : ℕ) (b : Block) (n : ℕ) → is_shown (insert bs at b) n ≡ (shows n b || is_shown bs n)
shown-insert bs at b n = sym (list_any-IsPermutation (shows n) (b ∷ bs) (insert bs at b) (IsPermutation-insert bs at b))

module _ (code : Code) where
  pub more_room : (es : List Filed) (settled known room more : ℕ) → room ≤ more → IsSettling code es settled known room → IsSettling code es settled known more
  more_room es settled known room more le h = record {
    rising = h.rising;
    mark = h.mark;
    fits = λ k d lt. let f = h.fits k d lt in record { game = f.game; within = omega (arith, f.within) };
    done = h.done;
    waiting = h.waiting;
    positive = h.positive;
    covered = h.covered;
  }

  -- there is room to the end of each entry
  pub end_fits : (es : List Filed) (settled known room k : ℕ) (d : Filed) → IsSettling code es settled known room → k < length es → Fits code room (filing_of (get_or es k d))
  end_fits es settled known room k d h lt = subst (Fits code room) (get_or-map filing_of es k d (filing_of d) lt) (h.fits k (filing_of d) (omega (arith, length-map es filing_of)))

  -- The next entry is judged and written in place, with its status.
  pub settle_next : (es : List Filed) (settled known room : ℕ) (e d : Filed) → IsSettling code es settled known room → settled < length es
      → filing_of e ≡ filing_of (get_or es settled d) → e.block.start ≤ known → e.status ≡ verdict e.block
      → IsSettling code (set es settled e) (settled + 1) (grown e.status known (end e.block)) room
  settle_next es settled known room e d h lt same le judged =
      let new = set es settled e in
      let known' = grown e.status known (end e.block) in
      let more = grown_up e.status known (end e.block) in
      let list_same : listed new ≡ listed es = map-set_same es settled e filing_of d same in
      let blocks_same : blocks_of new ≡ blocks_of es = map-set_same es settled e (λ x. x.block) d (ap (λ f. f.1) same) in
      let there : (n : ℕ) → shows n e.block ≡ true → is_shown (blocks_of new) n ≡ true = λ n here.
      list_any_at (shows n) (blocks_of new) settled e.block (omega (arith, length-map new (λ x. x.block), length-set es settled e))
      (ap (shows n) (get_or-map (λ (x : Filed). x.block) new settled e e.block (omega (arith, length-set es settled e)) ∙ ap (λ (x : Filed). x.block) (get_or-set_same es settled e e lt)) ∙ here) in
      record {
        rising = rw list_same h.rising;
        mark = omega (arith, length-set es settled e);
        fits = rw list_same h.fits;
        done = AllWithin-more_set es settled e lt (IsSettled known') (λ k d' lo hi. settled_more known known' _ more (h.done k d' lo hi)) (settled_judged known e le judged);
        waiting = rw (length-set es settled e) (AllWithin-set_before es settled e (λ e. e.status ≡ Pending) (settled + 1) (length es) (omega arith) (λ k d' lo hi. h.waiting k d' (omega arith) hi));
        positive = omega (arith, h.positive);
        covered = covered_judged (blocks_of new) known e.block e.status le judged there (subst (λ bs. IsCovered bs known) (sym blocks_same) h.covered);
      }

  module _ (es : List Filed) (settled known room at : ℕ) (e : Filed) (h : IsSettling code es settled known room) (le : at ≤ length es) (gap : IsGap es (filing_of e) at) (fits : Fits code room (filing_of e)) where
    new : List Filed
    new = insert es at e

    list_new : listed (insert es at e) ≡ insert (listed es) at (filing_of e)
    list_new = map-insert es at e le filing_of

    le_listed : at ≤ length (listed es)
    le_listed = omega (arith, length-map es filing_of)

    rising_new : AllPairs (λ f g. filing_cmp f g ≡ Less) (listed (insert es at e))
    rising_new = rw list_new (AllPairs-insert (listed es) at (filing_of e) le_listed (λ f g. filing_cmp f g ≡ Less) gap.0 gap.1 h.rising)

    fits_new : All (Fits code room) (listed (insert es at e))
    fits_new = rw list_new (All-insert (listed es) at (filing_of e) le_listed (Fits code room) fits h.fits)

    pub set_new : filings_of (insert es at e) ≡ sets.insert (filings_of es) (filing_of e)
    set_new = ap (sets.set_of {R = filing_cmp}) list_new ∙ set_of-insert (listed es) at (filing_of e)

    blocks_new : blocks_of (insert es at e) ≡ insert (blocks_of es) at e.block
    blocks_new = map-insert es at e le (λ x. x.block)

    shown_new : (n : ℕ) → is_shown (blocks_of (insert es at e)) n ≡ (shows n e.block || is_shown (blocks_of es) n)
    shown_new n = ap (λ bs. is_shown bs n) blocks_new ∙ shown-insert (blocks_of es) at e.block n

    covered_new : IsCovered (blocks_of (insert es at e)) known
    covered_new n from lt = shown_new n ∙ or_right (shows n e.block) (is_shown (blocks_of es) n) (h.covered n from lt)

    there_new : (n : ℕ) → shows n e.block ≡ true → is_shown (blocks_of (insert es at e)) n ≡ true
    there_new n here = shown_new n ∙ or_left (shows n e.block) (is_shown (blocks_of es) n) here

    -- a new entry that waits
    pub park_new : settled ≤ at → e.status ≡ Pending → IsSettling code (insert es at e) settled known room
    park_new after waits = record {
      rising = rising_new;
      mark = omega (arith, length-insert es at e le, h.mark);
      fits = fits_new;
      done = AllWithin-insert_after es at e le (IsSettled known) 0 settled after h.done;
      waiting = rw (length-insert es at e le) (AllWithin-insert es at e le (λ e. e.status ≡ Pending) settled (length es) after le waits h.waiting);
      positive = h.positive;
      covered = covered_new;
    }

    -- a new entry that was judged
    pub settle_new : at ≤ settled → e.block.start ≤ known → e.status ≡ verdict e.block → IsSettling code (insert es at e) (settled + 1) (grown e.status known (end e.block)) room
    settle_new before start judged =
        let known' = grown e.status known (end e.block) in
        let more = grown_up e.status known (end e.block) in
        record {
          rising = rising_new;
          mark = omega (arith, length-insert es at e le, h.mark);
          fits = fits_new;
          done = AllWithin-insert es at e le (IsSettled known') 0 settled (omega arith) before (settled_judged known e start judged) (λ k d' lo hi. settled_more known known' _ more (h.done k d' lo hi));
          waiting = rw (length-insert es at e le) (AllWithin-insert_before es at e le (λ e. e.status ≡ Pending) settled (length es) before h.waiting);
          positive = omega (arith, h.positive);
          covered = covered_judged (blocks_of (insert es at e)) known e.block e.status start judged there_new covered_new;
        }

  -- Where none that waits starts at or below the known length, it is that of the blocks.
  pub known_settled : (es : List Filed) (settled known room : ℕ) → IsSettling code es settled known room → AreParked es settled known → IsKnownLength (blocks_of es) known
  known_settled es settled known room h parked = record {
    some = h.positive;
    shown = h.covered;
    greatest = false_from_ne_true (is_shown (blocks_of es) known) (λ shown.
        let found = Any-from_list_any (shows known) (blocks_of es) shown in
        let b = found.1 in
        let by = shown-by b known found.4 in
        let within : found.0 < length es = omega (arith, found.2, length-map es (λ x. x.block)) in
        let d : Filed = record { dot = record { author = 0; number = 0 }; block = b; status = Pending } in
        let e : Filed = get_or es found.0 d in
        let is : b ≡ e.block = sym found.3 ∙ get_or-map (λ (x : Filed). x.block) es found.0 d b within in
        let start_is : b.start ≡ e.block.start = ap (λ b. b.start) is in
        let end_is : end b ≡ end e.block = ap end is in
        elim (cases_lt found.0 settled) [
          | inl done ↦ omega (arith, end_is, by.1, (h.done found.0 d (omega arith) done).counted (ap is_true (sym is) ∙ by.2))
          | inr waits ↦ omega (arith, start_is, by.0, parked found.0 d waits within)
        ]);
  }

-- what comes later starts no earlier
pub start-le : (f g : Filing) → filing_cmp f g ≡ Less → f.1.start ≤ g.1.start
start-le f g e = elim (nat_cmp f.1.start g.1.start) as (λ r. nat_cmp f.1.start g.1.start ≡ r → ordering_then r (then_cmp (on (λ f. f.0) dot_cmp) (on (λ f. f.1) block_cmp) f g) ≡ Less → f.1.start ≤ g.1.start) [
  | Less ↦ λ p _. omega (arith, ranked f.1.start g.1.start Less (sym p))
  | Equal ↦ λ p _. omega (arith, ranked f.1.start g.1.start Equal (sym p))
  | Greater ↦ λ p q. cc
] refl e

-- the first of those that wait is parked, so all are
pub parked_from_first : (es : List Filed) (settled known : ℕ) (d : Filed) → AllPairs (λ f g. filing_cmp f g ≡ Less) (listed es) → settled < length es → known < (get_or es settled d).block.start → AreParked es settled known
parked_from_first es settled known d rising within first k d' lo hi =
    let here : known < (get_or es settled d').block.start = subst (λ e. known < e.block.start) (get_or_default es settled d d' within) first in
    elim (cases_lt settled k) [
      | inr le ↦ subst (λ i. known < (get_or es i d').block.start) (let e : settled ≡ k = omega arith in e) here
      | inl lt ↦
          let less = rising settled k (filing_of d') lt (omega (arith, length-map es filing_of)) in
          let le = start-le (get_or (listed es) settled (filing_of d')) (get_or (listed es) k (filing_of d')) less in
          let a = ap (λ f. f.1.start) (get_or-map filing_of es settled d' (filing_of d') within) in
          let b = ap (λ f. f.1.start) (get_or-map filing_of es k d' (filing_of d') hi) in
          omega (arith, le, a, b)
    ]

module _ (code : Code) (es : List Filed) (settled known room at : ℕ) (e : Filed) (h : IsSettling code es settled known room) (le : at ≤ length es) (gap : IsGap es (filing_of e) at) where
  start_at : (k : ℕ) → k < length es → (get_or (listed es) k (filing_of e)).1.start ≡ (get_or es k e).block.start
  start_at k lt = ap (λ f. f.1.start) (get_or-map filing_of es k e (filing_of e) lt)

  -- what starts at or below the known length goes among those that are settled
  pub gap_before : AreParked es settled known → e.block.start ≤ known → at ≤ settled
  gap_before parked start = elim (cases_lt settled at) [
    | inr upto ↦ upto
    | inl lt ↦
        let less = start-le (get_or (listed es) settled (filing_of e)) (filing_of e) (gap.0 settled (filing_of e) (omega arith) lt) in
        absurd (omega (arith, less, start_at settled (omega arith), parked settled e (omega arith) (omega arith)))
  ]

  -- what starts beyond it goes among those that wait
  pub gap_after : known < e.block.start → settled ≤ at
  gap_after start = elim (cases_lt at settled) [
    | inr from ↦ from
    | inl lt ↦
        let in_range : at < length es = omega (arith, h.mark) in
        let less = start-le (filing_of e) (get_or (listed es) at (filing_of e)) (gap.1 at (filing_of e) (omega arith) (omega (arith, length-map es filing_of))) in
        absurd (omega (arith, less, start_at at in_range, (h.done at e (omega arith) lt).reached))
  ]

-- as many values are held as are known, but for that of place 0
pub held_grown : (status : Status) (known end len : ℕ) → known ≤ max 1 len → grown status known end ≤ max 1 (max len end)
held_grown Proved known end len h = omega arith
held_grown (Refuted a c t) known end len h = omega arith
held_grown Pending known end len h = omega arith

pub grown_within : (status : Status) (known end limit : ℕ) → known ≤ limit → end ≤ limit → grown status known end ≤ limit
grown_within Proved known end limit h k = omega arith
grown_within (Refuted a c t) known end limit h k = h
grown_within Pending known end limit h k = h
