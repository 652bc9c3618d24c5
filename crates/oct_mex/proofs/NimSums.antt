-- The nim-sums of many pairs of heaps at a time: the lanes of two vectors, the second one in reverse order.
use Rattle.std.proofs.Common.{◌≡◌, ℕ, zero, suc, ◌+◌, ◌*◌, ◌-◌, ◌/◌, ◌<◌, ◌≤◌, ◌++◌, Bool, true, false, cond, eqb, not, bit_xor, map, List, [], ◌∷◌, length, slice_index, slice_index_or, sym, ◌∙◌, ap, ap₂, subst, subst₂, arith, inl, inr}
use Rattle.std.proofs.lemmas.Bool.{cases_Bool, eqb-true, eq-eqb, false≢true}
use Rattle.std.proofs.lemmas.List.{get_or-map, get_or_append_left, length-map, map-id}
use Rattle.std.proofs.lemmas.Simd.{get_or-chunk, get_or-zip2, length-chunk, length-zip2}
use lib.Lanes.{chunk, mask_l, pick_l, zip2}
use Rattle.oct_mex.specs.Marks.{AreNimSums, IsPairValue}
use Rattle.oct_mex.specs.Periods.{StandsWithin}

-- ---- a mask with a bit for each element that passes

-- some element passes p
record Passes (p : ℕ → Bool) (xs : List ℕ) : Type 0 where
  pub place : ℕ
  pub within : place < length xs
  pub passes : p (slice_index xs place) ≡ true

from_mask : (p : ℕ → Bool) (xs : List ℕ) → 0 < mask_l (map p xs) → Passes p xs
from_mask p [] h = absurd (omega arith)
from_mask p (x ∷ xs) h = elim (cases_Bool (p x)) [
  | inl t ↦ record { place = 0; within = omega arith; passes = t }
  | inr f ↦
      let h' : 0 < cond false 1 0 + 2 * mask_l (map p xs) = subst (λ b. 0 < cond b 1 0 + 2 * mask_l (map p xs)) f h in
      let o = from_mask p xs (omega arith) in
      let in_tail = o.within in
      record { place = suc o.place; within = omega arith; passes = o.passes }
]

to_mask : (p : ℕ → Bool) (xs : List ℕ) (i : ℕ) → i < length xs → p (slice_index xs i) ≡ true → 0 < mask_l (map p xs)
to_mask p [] i h t = absurd (omega arith)
to_mask p (x ∷ xs) zero h t = subst (λ b. 0 < cond b 1 0 + 2 * mask_l (map p xs)) (sym t) (omega arith)
to_mask p (x ∷ xs) (suc i) h t = let ih = to_mask p xs i (omega arith) t in omega arith

positive : (m : ℕ) → not (eqb m 0) ≡ true → 0 < m
positive zero h = absurd (false≢true h)
positive (suc m) h = omega arith

is_positive : (m : ℕ) → 0 < m → not (eqb m 0) ≡ true
is_positive m h = elim (cases_Bool (eqb m 0)) [
  | inl t ↦ let none = eqb-true m 0 t in absurd (omega arith)
  | inr f ↦ ap not f
]

-- ---- the lanes

-- n - 1, .., 1, 0
abbrev pub down : ℕ → List ℕ
down zero = []
down (suc n) = n ∷ down n

length-down : (n : ℕ) → length (down n) ≡ n
length-down zero = omega arith
length-down (suc n) = let ih = length-down n in omega arith

down_at : (n i : ℕ) → i < n → slice_index (down n) i ≡ n - 1 - i
down_at zero i h = absurd (omega arith)
down_at (suc n) zero h = omega arith
down_at (suc n) (suc i) h = let ih = down_at n i (omega arith) in omega arith

module _ (xs : List ℕ) (rest from n v : ℕ) (many : 1 ≤ n) (some : 1 ≤ from) (smaller : from + n ≤ rest / 2 + 1) (held : rest ≤ length xs) where
  abbrev pub front : List ℕ
  front = chunk (rest + 1 - n - from) n xs

  abbrev pub back : List ℕ
  back = pick_l 0 (front ++ front) (down n)

  abbrev pub sums : List ℕ
  sums = zip2 bit_xor (chunk from n xs) back

  left-length : length (chunk from n xs) ≡ n
  left-length = length-chunk from n xs (omega arith)

  back-length : length back ≡ n
  back-length = length-map (down n) (λ k. slice_index (front ++ front) k) ∙ length-down n

  pub sums-length : length sums ≡ n
  sums-length = length-zip2 bit_xor (chunk from n xs) back (left-length ∙ sym back-length) ∙ left-length

  other : (i : ℕ) → i < n → slice_index back i ≡ slice_index xs (rest - (from + i))
  other i h =
      let k = n - 1 - i in
      let long = length-down n in
      let size = length-chunk (rest + 1 - n - from) n xs (omega arith) in
      let place : rest + 1 - n - from + k ≡ rest - (from + i) = omega arith in
      get_or-map (λ k. slice_index (front ++ front) k) (down n) i 0 0 (omega arith)
      ∙ ap (slice_index (front ++ front)) (down_at n i h)
      ∙ get_or_append_left front front 0 k (omega arith)
      ∙ get_or-chunk (rest + 1 - n - from) n xs k 0 (omega arith)
      ∙ ap (slice_index xs) place

  lane : (i d : ℕ) → i < n → slice_index_or sums i d ≡ bit_xor (slice_index xs (from + i)) (slice_index xs (rest - (from + i)))
  lane i d h =
      let l = left-length in
      let r = back-length in
      get_or-zip2 bit_xor (chunk from n xs) back i 0 0 d (omega arith) (omega arith) ∙ ap₂ bit_xor (get_or-chunk from n xs i 0 h) (other i h)

  pub are_nim_sums : AreNimSums (slice_index (map (λ x. x) xs)) rest from n (slice_index (map (λ x. x) sums))
  are_nim_sums =
      subst₂ (λ (ys zs : List ℕ). AreNimSums (slice_index ys) rest from n (slice_index zs)) (sym (map-id xs)) (sym (map-id sums)) (λ i h. lane i 0 h)

  from_lanes : 0 < mask_l (map (λ x. eqb x v) sums) → IsPairValue (slice_index xs) rest from (from + n) v
  from_lanes h =
      let o = from_mask (λ x. eqb x v) sums h in
      let long = sums-length in
      let within = o.within in
      record {
        a = from + o.place;
        b = rest - (from + o.place);
        high = omega arith;
        low = omega arith;
        ordered = omega arith;
        total = omega arith;
        is = sym (eqb-true (slice_index sums o.place) v o.passes) ∙ lane o.place 0 (omega arith);
      }

  to_lanes : IsPairValue (slice_index xs) rest from (from + n) v → 0 < mask_l (map (λ x. eqb x v) sums)
  to_lanes o =
      let i = o.a - from in
      let high = o.high in
      let low = o.low in
      let total = o.total in
      let long = sums-length in
      let place : from + i ≡ o.a = omega arith in
      let larger : rest - (from + i) ≡ o.b = omega arith in
      to_mask (λ x. eqb x v) sums i (omega arith)
      (eq-eqb (slice_index sums i) v (lane i 0 (omega arith) ∙ ap₂ (λ j k. bit_xor (slice_index xs j) (slice_index xs k)) place larger ∙ sym o.is))

  pub met_from : not (eqb (mask_l (map (λ x. eqb x v) sums)) 0) ≡ true → IsPairValue (slice_index (map (λ x. x) xs)) rest from (from + n) v
  met_from t = subst (λ (ys : List ℕ). IsPairValue (slice_index ys) rest from (from + n) v) (sym (map-id xs)) (from_lanes (positive _ t))

  pub met_to : IsPairValue (slice_index (map (λ x. x) xs)) rest from (from + n) v → not (eqb (mask_l (map (λ x. eqb x v) sums)) 0) ≡ true
  met_to o = is_positive _ (to_lanes (subst (λ (ys : List ℕ). IsPairValue (slice_index ys) rest from (from + n) v) (map-id xs) o))

-- ---- whether one of many values is this one

module _ (xs : List ℕ) (from n v : ℕ) (held : from + n ≤ length xs) where
  abbrev pub part : List ℕ
  part = chunk from n xs

  pub part-length : length part ≡ n
  part-length = length-chunk from n xs held

  pub stands_from : not (eqb (mask_l (map (λ x. eqb x v) part)) 0) ≡ true → StandsWithin (map (λ x. x) xs) from (from + n) v
  stands_from t =
      let o = from_mask (λ x. eqb x v) part (positive _ t) in
      let long = part-length in
      let within = o.within in
      subst (λ (ys : List ℕ). StandsWithin ys from (from + n) v) (sym (map-id xs)) (record {
        at = from + o.place;
        high = omega arith;
        low = omega arith;
        is = sym (get_or-chunk from n xs o.place 0 (omega arith)) ∙ eqb-true (slice_index part o.place) v o.passes;
      })

  pub stands_to : StandsWithin (map (λ x. x) xs) from (from + n) v → not (eqb (mask_l (map (λ x. eqb x v) part)) 0) ≡ true
  stands_to stands =
      let o : StandsWithin xs from (from + n) v = subst (λ (ys : List ℕ). StandsWithin ys from (from + n) v) (map-id xs) stands in
      let i = o.at - from in
      let high = o.high in
      let low = o.low in
      let long = part-length in
      let place : from + i ≡ o.at = omega arith in
      is_positive _ (to_mask (λ x. eqb x v) part i (omega arith)
      (eq-eqb (slice_index part i) v (get_or-chunk from n xs i 0 (omega arith) ∙ ap (slice_index xs) place ∙ o.is)))
