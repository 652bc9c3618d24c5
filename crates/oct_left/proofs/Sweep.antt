-- Spans that are gone through in the order of their starts.
use Rattle.std.proofs.Common.{◌≡◌, ℕ, suc, ◌≤◌, ◌<◌, Bool, true, false, ◌&&◌, ◌||◌, List, [], ◌∷◌, length, drop, refl, sym, ap, ◌∙◌, arith, subst}
use Rattle.std.proofs.Math.Seq.{drop-cons}
use Rattle.std.specs.Prelude.{max, nat_le, nat_lt, if◌then◌else◌, slice_index_or}
use Rattle.std.specs.List.{list_any}
use Rattle.std.specs.List.Sorted.{IsNonDecreasingBy}
use Rattle.std.proofs.lemmas.Bool.{and_left, and_right, le-leb, le-ltb, lt-leb, lt-ltb, ltb-false, ltb-true}
use Rattle.std.proofs.lemmas.List.Folds.{list_any_none}
use Rattle.std.proofs.lemmas.List.Sorted.{IsNonDecreasingBy-drop}
use Rattle.oct_left.specs.Spans.{has_heap}
use Rattle.oct_left.specs.declared.span.Span.{Span}

-- the first heap that is missing, where all below this one are there
abbrev pub swept : ℕ → List Span → ℕ
swept missing [] = missing
swept missing (s ∷ ss) = if nat_lt missing s.start then missing else swept (max missing s.end) ss

or_right : (a b : Bool) → b ≡ true → (a || b) ≡ true
or_right true b e = refl
or_right false b e = e

-- a heap below the first missing one lies in a span
pub below_swept : (spans : List Span) (missing heap : ℕ) → missing ≤ heap → heap < swept missing spans → list_any (has_heap heap) spans ≡ true
below_swept [] missing heap from below = absurd (omega arith)
below_swept (s ∷ ss) missing heap from below = by (nat_lt missing s.start) refl (nat_lt heap s.end) refl (below_swept ss (max missing s.end) heap)
  where
    by : (late : Bool) → nat_lt missing s.start ≡ late → (inside : Bool) → nat_lt heap s.end ≡ inside
        → (max missing s.end ≤ heap → heap < swept (max missing s.end) ss → list_any (has_heap heap) ss ≡ true) → list_any (has_heap heap) (s ∷ ss) ≡ true
    by true late inside e later =
        let early : heap < missing = subst (λ b. heap < (if b then missing else swept (max missing s.end) ss)) late below in
        absurd (omega (arith, early, from))
    by false late true e later =
        let begins = le-leb s.start heap (omega (arith, ltb-false missing s.start late, from)) in
        λ i. (begins i && e i) || list_any (has_heap heap) ss
    by false late false e later =
        let here : heap < swept (max missing s.end) ss = subst (λ b. heap < (if b then missing else swept (max missing s.end) ss)) late below in
        let behind : s.end ≤ heap = ltb-false heap s.end e in
        or_right (has_heap heap s) (list_any (has_heap heap) ss) (later (omega (arith, behind, from)) here)

pub swept_from : (spans : List Span) (missing : ℕ) → missing ≤ swept missing spans
swept_from [] missing = omega arith
swept_from (s ∷ ss) missing = by (nat_lt missing s.start) refl (swept_from ss (max missing s.end))
  where
    by : (late : Bool) → nat_lt missing s.start ≡ late → max missing s.end ≤ swept (max missing s.end) ss → missing ≤ swept missing (s ∷ ss)
    by true late more = subst (λ b. missing ≤ (if b then missing else swept (max missing s.end) ss)) (sym late) (omega arith)
    by false late more = subst (λ b. missing ≤ (if b then missing else swept (max missing s.end) ss)) (sym late) (omega (arith, more))

early : (heap : ℕ) (s : Span) → heap < s.start → has_heap heap s ≡ false
early heap s below = and_left (nat_le s.start heap) (nat_lt heap s.end) (lt-leb s.start heap below)

late : (heap : ℕ) (s : Span) → s.end ≤ heap → has_heap heap s ≡ false
late heap s above = and_right (nat_le s.start heap) (nat_lt heap s.end) (le-ltb heap s.end above)

-- the first missing heap lies in no span, where the spans are sorted by their starts
pub none_at_swept : (spans : List Span) (missing heap : ℕ) → IsNonDecreasingBy (λ s. s.start) spans → heap ≡ swept missing spans → list_any (has_heap heap) spans ≡ false
none_at_swept [] missing heap sorted is = refl
none_at_swept (s ∷ ss) missing heap sorted is = by (nat_lt missing s.start) refl (none_at_swept ss (max missing s.end) heap (IsNonDecreasingBy-drop (λ s. s.start) 1 (s ∷ ss) sorted))
  where
    by : (b : Bool) → nat_lt missing s.start ≡ b → (heap ≡ swept (max missing s.end) ss → list_any (has_heap heap) ss ≡ false) → list_any (has_heap heap) (s ∷ ss) ≡ false
    by true before rest =
        let here : heap ≡ missing = is ∙ ap (λ b. if b then missing else swept (max missing s.end) ss) before in
        let first : heap < s.start = omega (arith, here, ltb-true missing s.start before) in
        list_any_none (has_heap heap) (s ∷ ss) (λ k d within. early heap (slice_index_or (s ∷ ss) k d) (let above = sorted 0 k d (omega arith) within in omega (arith, first, above)))
    by false before rest =
        let here : heap ≡ swept (max missing s.end) ss = is ∙ ap (λ b. if b then missing else swept (max missing s.end) ss) before in
        let above : s.end ≤ heap = omega (arith, here, swept_from ss (max missing s.end)) in
        λ i. late heap s above i || rest here i

-- the next span begins above the first missing heap
pub stops : (spans : List Span) (i missing : ℕ) (d : Span) → i < length spans → missing < (slice_index_or spans i d).start → swept missing (drop i spans) ≡ missing
stops spans i missing d within before =
    ap (swept missing) (drop-cons spans i d within)
    ∙ ap (λ b. if b then missing else swept (max missing (slice_index_or spans i d).end) (drop (suc i) spans)) (lt-ltb missing (slice_index_or spans i d).start before)
