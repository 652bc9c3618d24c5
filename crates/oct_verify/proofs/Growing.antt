-- The mark between what is settled and what waits, and a shelf that makes room.
use Rattle.std.proofs.Common.{◌≡◌, ℕ, ◌<◌, ◌≤◌, Bool, true, false, not, Some, None, List, [], ◌∷◌, length, get_or, refl, sym, ap, ◌∙◌, arith, inl, inr}
use Rattle.std.specs.List.{AllWithin}
use Rattle.std.specs.List.Sorted.{IsPartitionedBy, IsPartitionPoint}
use Rattle.std.proofs.lemmas.List.{get_or_default}
use Rattle.std.proofs.lemmas.Bool.{cases_lt, cases_order, false_from_ne_true, true≢false}
use Rattle.oct_code.specs.Code.{Code}
use Rattle.oct_ops.specs.Operation.{Block}
use Rattle.oct_ops.specs.Sets.{contains}
use Rattle.oct_verify.specs.Filed.{Filed}
use Rattle.oct_verify.specs.Filing.{Filing}
use Rattle.oct_verify.specs.Kept.{is_pending, IsSettling}
use Rattle.chunked.specs.Chunked.{chunked, index_of, IsChunked, IsInside, IsBeside, IsItemAt, content}
use Rattle.oct_verify.specs.Shelf.{shelved, HasRoomFor, IsHalfway, IsKept}
use Rattle.oct_verify.specs.Known.{first_wrong, verdict_at, verdict}
use Rattle.chunked.specs.declared.chunks.Chunks.{Chunks}
use Rattle.chunked.specs.declared.chunks.Place.{Place}
use Rattle.oct_verify.specs.declared.shelf.Shelf.{Shelf}
use Rattle.chunked.proofs.Joining.{end-upto, within-joined}
use Rattle.oct_verify.proofs.Keeping.{more_room}
use Rattle.oct_verify.proofs.Searching.{gap_not_filed}

module _ {X : Type 0} (q : X → Bool) (xs : List X) (mark : ℕ) (pass : AllWithin (λ x. q x ≡ true) xs 0 mark) (fail : AllWithin (λ x. q x ≡ false) xs mark (length xs)) where
  pub parted_by_mark : IsPartitionedBy q xs
  parted_by_mark i j d le lt passes = elim (cases_lt i mark) [
    | inl before ↦ pass i d (omega arith) before
    | inr after ↦ absurd (true≢false (sym passes ∙ fail j d (omega arith) lt))
  ]

  pub one_mark : (k : ℕ) (x : X) → mark ≤ length xs → k < length xs → IsPartitionPoint (λ x. q x ≡ true) (λ x. q x ≡ false) xs k → k ≡ mark
  one_mark k x mark_le lt point = elim (cases_order k mark) [
    | inl e ↦ e
    | inr h ↦ elim h [
      | inl below ↦ absurd (true≢false (sym (pass k x (omega arith) below) ∙ point.1 k x (omega arith) lt))
      | inr above ↦ absurd (true≢false (sym (point.0 mark x (omega arith) above) ∙ fail mark x (omega arith) (omega arith)))
    ]
  ]

abbrev pub is_settled : Filed → Bool
is_settled e = not (is_pending e.status)

verdict-settled : (b : Block) → not (is_pending (verdict b)) ≡ true
verdict-settled b = elim (first_wrong b.code b.start b.values) as (λ o. not (is_pending (verdict_at b o)) ≡ true) [ None ↦ refl | Some n ↦ refl ]

module _ (code : Code) (es : List Filed) (settled known room : ℕ) (h : IsSettling code es settled known room) where
  pub done_settled : AllWithin (λ e. is_settled e ≡ true) es 0 settled
  done_settled k d lo hi = ap (λ s. not (is_pending s)) (h.done k d lo hi).judged ∙ verdict-settled (get_or es k d).block

  pub waiting_not : AllWithin (λ e. is_settled e ≡ false) es settled (length es)
  waiting_not k d lo hi = ap (λ s. not (is_pending s)) (h.waiting k d lo hi)

-- a place with an entry is one of the list
pub inside_within : {X A : Type 0} (s : Chunks X A) (place : Place) → IsInside s place → index_of s place < length (chunked s)
inside_within s place h = within-joined content s.chunks.items place.chunk place.at h.chunk h.at

pub beside_upto : {X A : Type 0} (s : Chunks X A) (place : Place) → IsBeside s place → index_of s place ≤ length (chunked s)
beside_upto s place h = elim s.chunks.items as (λ l. s.chunks.items ≡ l → index_of s place ≤ length (chunked s)) [
  | [] ↦ λ e. absurd (omega (arith, h.chunk, ap length e))
  | v ∷ vs ↦ λ e. omega (arith, end-upto content s.chunks.items place.chunk v h.chunk, h.at v)
] refl

-- a block that has room only now is not there
pub absent_yet : {A : Type 0} (s : Shelf A) (f : Filing) (place : Place) → HasRoomFor s f place → contains (shelved s) f ≡ false
absent_yet s f place h = false_from_ne_true _ (gap_not_filed (chunked s.entries) f (index_of s.entries place) h.gap)

-- the first entry that waits, where there is one
pub record IsFirstWaiting {A : Type 0} (s : Shelf A) (here : Place) (entry : Filed) : Type 0 where
  pub next : index_of s.entries here ≡ s.comparer.checks
  pub waits : s.comparer.checks < length (chunked s.entries)
  pub is : (d : Filed) → get_or (chunked s.entries) s.comparer.checks d ≡ entry

pub first_waiting : {A : Type 0} (s : Shelf A) (point here : Place) (entry : Filed) → IsHalfway s → IsInside s.entries here → index_of s.entries here ≡ index_of s.entries point
    → IsPartitionPoint (λ e. is_settled e ≡ true) (λ e. is_settled e ≡ false) (chunked s.entries) (index_of s.entries point) → IsItemAt s.entries here entry → IsFirstWaiting s here entry
first_waiting s point here entry halfway inside same found item =
    let es = chunked s.entries in
    let code = s.comparer.values.code in
    let settled = s.comparer.checks in
    let settling = halfway.settling in
    let lt : index_of s.entries here < length es = inside_within s.entries here inside in
    let mark : index_of s.entries point ≡ settled = one_mark is_settled es settled (done_settled code es settled _ _ settling) (waiting_not code es settled _ _ settling) (index_of s.entries point) entry settling.mark (omega (arith, lt, same)) found in
    let next : index_of s.entries here ≡ settled = same ∙ mark in
    let waits : settled < length es = omega (arith, lt, next) in
    record {
      next = next;
      waits = waits;
      is = λ d. get_or_default es settled d entry waits ∙ ap (λ i. get_or es i entry) (sym next) ∙ item;
    }

-- a shelf whose content stays, and that may have more room
module _ {A : Type 0} (s t : Shelf A) (kept : IsKept s) (chunks : IsChunked t.entries) (same : chunked t.entries ≡ chunked s.entries) (known : t.known ≡ s.known) (checks : t.comparer.checks ≡ s.comparer.checks)
    (code : t.comparer.values.code ≡ s.comparer.values.code) (len : t.comparer.values.len ≡ s.comparer.values.len) (room : s.comparer.values.room ≤ t.comparer.values.room) where
  pub halfway_grown : IsHalfway t
  halfway_grown =
      let more = more_room s.comparer.values.code (chunked s.entries) s.comparer.checks s.known s.comparer.values.room t.comparer.values.room room kept.halfway.settling in
      record {
        chunks = chunks;
        settling = rw (code, same, checks, known) more;
        within = rw known kept.halfway.within;
        held = rw (known, len) kept.halfway.held;
      }

  pub kept_grown : IsKept t
  kept_grown = record { halfway = halfway_grown; parked = rw (same, checks, known) kept.parked }
