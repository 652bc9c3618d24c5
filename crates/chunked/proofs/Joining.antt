-- Lists that make up one list.
use Rattle.std.proofs.Common.{◌≡◌, ◌≢◌, ℕ, ◌+◌, ◌-◌, ◌<◌, ◌≤◌, zero, suc, Bool, true, false, List, [], ◌∷◌, ◌++◌, length, get_or, set, refl, sym, ap, subst, ◌∙◌, arith, inl, inr}
use Rattle.std.specs.List.{insert, remove, AllWithin}
use Rattle.std.specs.List.Sorted.{IsPartitionedBy, IsPartitionPoint}
use Rattle.std.proofs.lemmas.List.{length-append, get_or-append-add, get_or_append_left, set-append_left, set-append_right, get_or-set_same, get_or-set_other, append_assoc}
use Rattle.std.proofs.lemmas.List.Edits.{insert-append_left, insert-append_right, remove-append_left, remove-append_right}
use Rattle.std.proofs.lemmas.Bool.{cases_lt, cases_order, true≢false}
use Rattle.chunked.specs.Chunked.{joined, start_of, first_passes}

-- a write of an element that has the property
pub AllWithin-set : {X : Type 0} (P : X → Type 0) (xs : List X) (at low high : ℕ) (y : X) → high ≤ length xs → P y → AllWithin P xs low high → AllWithin P (set xs at y) low high
AllWithin-set P xs at low high y le p h k d lo hi = elim (cases_order k at) [
  | inl e ↦ subst P (sym (ap (λ i. get_or (set xs at y) i d) e ∙ get_or-set_same xs at y d (omega arith))) p
  | inr other ↦ let ne : k ≢ at = elim other [ inl lt ↦ λ e. absurd (omega arith) | inr lt ↦ λ e. absurd (omega arith) ] in subst P (sym (get_or-set_other xs at k y d ne)) (h k d lo hi)
]

module _ {V X : Type 0} (f : V → List X) where
  pub start-more : (vs : List V) (n : ℕ) (d : V) → n < length vs → start_of f vs (suc n) ≡ start_of f vs n + length (f (get_or vs n d))
  start-more [] n d lt = absurd (omega arith)
  start-more (v ∷ vs) zero d lt = omega arith
  start-more (v ∷ vs) (suc n) d lt = omega (arith, start-more vs n d (omega arith))

  pub start-upto : (vs : List V) (n : ℕ) → n ≤ length vs → start_of f vs n ≤ length (joined f vs)
  start-upto vs zero le = omega arith
  start-upto [] (suc n) le = absurd (omega arith)
  start-upto (v ∷ vs) (suc n) le = omega (arith, start-upto vs n (omega arith), length-append (f v) (joined f vs))

  pub start-all : (vs : List V) → start_of f vs (length vs) ≡ length (joined f vs)
  start-all [] = refl
  start-all (v ∷ vs) = omega (arith, start-all vs, length-append (f v) (joined f vs))

  pub start-mono : (vs : List V) (m n : ℕ) → m ≤ n → n ≤ length vs → start_of f vs m ≤ start_of f vs n
  start-mono vs zero n le in_range = omega arith
  start-mono [] (suc m) n le in_range = absurd (omega arith)
  start-mono (v ∷ vs) (suc m) zero le in_range = absurd (omega arith)
  start-mono (v ∷ vs) (suc m) (suc n) le in_range = omega (arith, start-mono vs m n (omega arith) (omega arith))

  pub end-upto : (vs : List V) (n : ℕ) (d : V) → n < length vs → start_of f vs n + length (f (get_or vs n d)) ≤ length (joined f vs)
  end-upto vs n d lt = omega (arith, start-more vs n d lt, start-upto vs (suc n) (omega arith))

  pub within-joined : (vs : List V) (n at : ℕ) → n < length vs → ((d : V) → at < length (f (get_or vs n d))) → start_of f vs n + at < length (joined f vs)
  within-joined [] n at lt inside = absurd (omega arith)
  within-joined (v ∷ vs) n at lt inside = omega (arith, end-upto (v ∷ vs) n v lt, inside v)

  pub at-joined : (vs : List V) (n at : ℕ) (d : V) (x : X) → n < length vs → at < length (f (get_or vs n d)) → get_or (joined f vs) (start_of f vs n + at) x ≡ get_or (f (get_or vs n d)) at x
  at-joined [] n at d x lt in_list = absurd (omega arith)
  at-joined (v ∷ vs) zero at d x lt in_list = ap (λ i. get_or (f v ++ joined f vs) i x) (let e : 0 + at ≡ at = omega arith in e) ∙ get_or_append_left (f v) (joined f vs) x at in_list
  at-joined (v ∷ vs) (suc n) at d x lt in_list =
      ap (λ i. get_or (f v ++ joined f vs) i x) (let e : length (f v) + start_of f vs n + at ≡ length (f v) + (start_of f vs n + at) = omega arith in e)
      ∙ get_or-append-add (f v) (joined f vs) (start_of f vs n + at) x
      ∙ at-joined vs n at d x (omega arith) in_list

  pub set-joined : (vs : List V) (n at : ℕ) (d w : V) (x : X) → n < length vs → at < length (f (get_or vs n d)) → f w ≡ set (f (get_or vs n d)) at x → joined f (set vs n w) ≡ set (joined f vs) (start_of f vs n + at) x
  set-joined [] n at d w x lt in_list e = absurd (omega arith)
  set-joined (v ∷ vs) zero at d w x lt in_list e =
      ap (λ l. l ++ joined f vs) e ∙ sym (set-append_left (f v) (joined f vs) at x in_list)
      ∙ ap (λ i. set (f v ++ joined f vs) i x) (let z : at ≡ 0 + at = omega arith in z)
  set-joined (v ∷ vs) (suc n) at d w x lt in_list e =
      ap (λ l. f v ++ l) (set-joined vs n at d w x (omega arith) in_list e ∙ ap (λ i. set (joined f vs) i x) (let z : start_of f vs n + at ≡ length (f v) + start_of f vs n + at - length (f v) = omega arith in z))
      ∙ sym (set-append_right (f v) (joined f vs) (length (f v)) (length (f v) + start_of f vs n + at) x refl (omega arith))

  pub insert-joined : (vs : List V) (n at : ℕ) (d w : V) (x : X) → n < length vs → at ≤ length (f (get_or vs n d)) → f w ≡ insert (f (get_or vs n d)) at x → joined f (set vs n w) ≡ insert (joined f vs) (start_of f vs n + at) x
  insert-joined [] n at d w x lt in_list e = absurd (omega arith)
  insert-joined (v ∷ vs) zero at d w x lt in_list e =
      ap (λ l. l ++ joined f vs) e ∙ sym (insert-append_left (f v) (joined f vs) at x in_list)
      ∙ ap (λ i. insert (f v ++ joined f vs) i x) (let z : at ≡ 0 + at = omega arith in z)
  insert-joined (v ∷ vs) (suc n) at d w x lt in_list e =
      ap (λ l. f v ++ l) (insert-joined vs n at d w x (omega arith) in_list e ∙ ap (λ i. insert (joined f vs) i x) (let z : start_of f vs n + at ≡ length (f v) + start_of f vs n + at - length (f v) = omega arith in z))
      ∙ sym (insert-append_right (f v) (joined f vs) (length (f v)) (length (f v) + start_of f vs n + at) x refl (omega arith))

  pub remove-joined : (vs : List V) (n at : ℕ) (d w : V) → n < length vs → at < length (f (get_or vs n d)) → f w ≡ remove (f (get_or vs n d)) at → joined f (set vs n w) ≡ remove (joined f vs) (start_of f vs n + at)
  remove-joined [] n at d w lt in_list e = absurd (omega arith)
  remove-joined (v ∷ vs) zero at d w lt in_list e =
      ap (λ l. l ++ joined f vs) e ∙ sym (remove-append_left (f v) (joined f vs) at in_list)
      ∙ ap (remove (f v ++ joined f vs)) (let z : at ≡ 0 + at = omega arith in z)
  remove-joined (v ∷ vs) (suc n) at d w lt in_list e =
      ap (λ l. f v ++ l) (remove-joined vs n at d w (omega arith) in_list e ∙ ap (remove (joined f vs)) (let z : start_of f vs n + at ≡ length (f v) + start_of f vs n + at - length (f v) = omega arith in z))
      ∙ sym (remove-append_right (f v) (joined f vs) (length (f v)) (length (f v) + start_of f vs n + at) refl (omega arith))

  only : (xs : List X) → length xs ≡ 1 → remove xs 0 ≡ []
  only [] one = absurd (omega arith)
  only (x ∷ []) one = refl
  only (x ∷ y ∷ xs) one = absurd (omega arith)

  -- a list of one element goes with it
  pub drop-joined : (vs : List V) (n at : ℕ) (d : V) → n < length vs → at < length (f (get_or vs n d)) → length (f (get_or vs n d)) ≡ 1 → joined f (remove vs n) ≡ remove (joined f vs) (start_of f vs n + at)
  drop-joined [] n at d lt in_list one = absurd (omega arith)
  drop-joined (v ∷ vs) zero at d lt in_list one =
      ap (λ l. l ++ joined f vs) (sym (only (f v) one)) ∙ sym (remove-append_left (f v) (joined f vs) 0 (omega arith))
      ∙ ap (remove (f v ++ joined f vs)) (let z : 0 ≡ 0 + at = omega arith in z)
  drop-joined (v ∷ vs) (suc n) at d lt in_list one =
      ap (λ l. f v ++ l) (drop-joined vs n at d (omega arith) in_list one ∙ ap (remove (joined f vs)) (let z : start_of f vs n + at ≡ length (f v) + start_of f vs n + at - length (f v) = omega arith in z))
      ∙ sym (remove-append_right (f v) (joined f vs) (length (f v)) (length (f v) + start_of f vs n + at) refl (omega arith))

  -- one list in place of two, or two in place of one
  pub split-joined : (vs : List V) (n : ℕ) (d lower upper : V) → n < length vs → f lower ++ f upper ≡ f (get_or vs n d) → joined f (insert (set vs n lower) (suc n) upper) ≡ joined f vs
  split-joined [] n d lower upper lt e = absurd (omega arith)
  split-joined (v ∷ vs) zero d lower upper lt e = sym (append_assoc (f lower) (f upper) (joined f vs)) ∙ ap (λ l. l ++ joined f vs) e
  split-joined (v ∷ vs) (suc n) d lower upper lt e = ap (λ l. f v ++ l) (split-joined vs n d lower upper (omega arith) e)

  pub start-split : (vs : List V) (n : ℕ) (lower upper : V) → n < length vs → start_of f (insert (set vs n lower) (suc n) upper) n ≡ start_of f vs n
  start-split [] n lower upper lt = absurd (omega arith)
  start-split (v ∷ vs) zero lower upper lt = refl
  start-split (v ∷ vs) (suc n) lower upper lt = ap (λ s. length (f v) + s) (start-split vs n lower upper (omega arith))

  pub start-split_next : (vs : List V) (n : ℕ) (lower upper : V) → n < length vs → start_of f (insert (set vs n lower) (suc n) upper) (suc n) ≡ start_of f vs n + length (f lower)
  start-split_next [] n lower upper lt = absurd (omega arith)
  start-split_next (v ∷ vs) zero lower upper lt = omega arith
  start-split_next (v ∷ vs) (suc n) lower upper lt = omega (arith, start-split_next vs n lower upper (omega arith))

  pub start-set : (vs : List V) (n : ℕ) (w : V) → start_of f (set vs n w) n ≡ start_of f vs n
  start-set [] n w = refl
  start-set (v ∷ vs) zero w = refl
  start-set (v ∷ vs) (suc n) w = ap (λ s. length (f v) + s) (start-set vs n w)

  -- no list but the first is empty
  abbrev pub AreFilled : List V → Type 0
  AreFilled vs = AllWithin (λ v. 0 < length (f v)) vs 1 (length vs)

  module _ (q : X → Bool) where
    first-is : (xs : List X) (x : X) → 0 < length xs → first_passes q xs ≡ q (get_or xs 0 x)
    first-is [] x lt = absurd (omega arith)
    first-is (y ∷ ys) x lt = refl

    not-empty : (xs : List X) → first_passes q xs ≡ false → 0 < length xs
    not-empty [] e = absurd (true≢false e)
    not-empty (x ∷ xs) e = omega arith

    module _ (vs : List V) (filled : AreFilled vs) (parted : IsPartitionedBy q (joined f vs)) where
      at_start : (n : ℕ) (d : V) (x : X) → n < length vs → 0 < length (f (get_or vs n d)) → first_passes q (f (get_or vs n d)) ≡ q (get_or (joined f vs) (start_of f vs n) x)
      at_start n d x lt some = first-is (f (get_or vs n d)) x some ∙ ap q (sym (at-joined vs n 0 d x lt some) ∙ ap (λ i. get_or (joined f vs) i x) (let e : start_of f vs n + 0 ≡ start_of f vs n = omega arith in e))

      pub parted_by_first : IsPartitionedBy (λ v. first_passes q (f v)) vs
      parted_by_first i j d le lt passes = elim (cases_lt i j) [
        | inr same ↦ ap (λ k. first_passes q (f (get_or vs k d))) (let e : i ≡ j = omega arith in e) ∙ passes
        | inl before ↦ elim (f (get_or vs i d)) as (λ l. f (get_or vs i d) ≡ l → first_passes q l ≡ true) [
          | [] ↦ λ _. refl
          | x ∷ xs ↦ λ e.
              let some : 0 < length (f (get_or vs i d)) = subst (λ l. 0 < length l) (sym e) (omega arith) in
              let later : 0 < length (f (get_or vs j d)) = filled j d (omega arith) lt in
              sym (ap (first_passes q) e) ∙ at_start i d x (omega arith) some
              ∙ parted (start_of f vs i) (start_of f vs j) x (start-mono vs i j le (omega arith)) (omega (arith, end-upto vs j d lt)) (sym (at_start j d x lt later) ∙ passes)
        ] refl
      ]

      -- where the lists part by their first elements, and the one before that parts in itself
      pub point-joined : (c at : ℕ) (v : V) → c - 1 < length vs → c ≤ length vs → v ≡ get_or vs (c - 1) v
          → IsPartitionPoint (λ w. first_passes q (f w) ≡ true) (λ w. first_passes q (f w) ≡ false) vs c
          → IsPartitionPoint (λ x. q x ≡ true) (λ x. q x ≡ false) (f v) at
          → at ≤ length (f v)
          → IsPartitionPoint (λ x. q x ≡ true) (λ x. q x ≡ false) (joined f vs) (start_of f vs (c - 1) + at)
      point-joined c at v lt c_le is by_first inner at_le =
          let n : ℕ = c - 1 in
          let inside : (j : ℕ) (x : X) → j < length (f v) → get_or (joined f vs) (start_of f vs n + j) x ≡ get_or (f v) j x = λ j x j_lt. at-joined vs n j v x lt (subst (λ w. j < length (f w)) is j_lt) ∙ ap (λ w. get_or (f w) j x) (sym is) in
          let next : start_of f vs (suc n) ≡ start_of f vs n + length (f v) = start-more vs n v lt ∙ ap (λ w. start_of f vs n + length (f w)) (sym is) in (
            (λ k x lo hi. elim (cases_lt k (start_of f vs n)) [
              | inr from ↦ ap (λ i. q (get_or (joined f vs) i x)) (let e : k ≡ start_of f vs n + (k - start_of f vs n) = omega arith in e) ∙ ap q (inside (k - start_of f vs n) x (omega arith)) ∙ inner.0 (k - start_of f vs n) x (omega arith) (omega arith)
              | inl before ↦
                  let positive : 0 < n = elim (cases_lt 0 n) [ inl p ↦ p | inr z ↦ absurd (let e : n ≡ 0 = omega arith in omega (arith, before, ap (start_of f vs) e)) ] in
                  let some : 0 < length (f (get_or vs n v)) = filled n v (omega arith) lt in
                  parted k (start_of f vs n) x (omega arith) (omega (arith, end-upto vs n v lt)) (sym (at_start n v x lt some) ∙ by_first.0 n v (omega arith) (omega arith))
            ]),
            (λ k x lo hi. elim (cases_lt k (start_of f vs n + length (f v))) [
              | inl here ↦ ap (λ i. q (get_or (joined f vs) i x)) (let e : k ≡ start_of f vs n + (k - start_of f vs n) = omega arith in e) ∙ ap q (inside (k - start_of f vs n) x (omega arith)) ∙ inner.1 (k - start_of f vs n) x (omega arith) (omega arith)
              | inr after ↦
                  let more : suc n < length vs = elim (cases_lt (suc n) (length vs)) [ inl p ↦ p | inr z ↦ absurd (let e : suc n ≡ length vs = omega arith in omega (arith, next, ap (start_of f vs) e, start-all vs)) ] in
                  let fails : first_passes q (f (get_or vs (suc n) v)) ≡ false = by_first.1 (suc n) v (omega arith) more in
                  let some = not-empty (f (get_or vs (suc n) v)) fails in
                  elim (q (get_or (joined f vs) k x)) as (λ b. q (get_or (joined f vs) k x) ≡ b → b ≡ false) [
                    | false ↦ λ _. refl
                    | true ↦ λ e. absurd (true≢false (sym (parted (start_of f vs (suc n)) k x (omega (arith, next)) hi e) ∙ sym (at_start (suc n) v x more some) ∙ fails))
                  ] refl
            ]),
          )

  -- what parts all parts each
  pub parted-part : (q : X → Bool) (vs : List V) (n : ℕ) (d : V) → n < length vs → IsPartitionedBy q (joined f vs) → IsPartitionedBy q (f (get_or vs n d))
  parted-part q vs n d lt parted i j x le in_list passes =
      ap q (sym (at-joined vs n i d x lt (omega arith)))
      ∙ parted (start_of f vs n + i) (start_of f vs n + j) x (omega arith) (omega (arith, end-upto vs n d lt)) (ap q (at-joined vs n j d x lt in_list) ∙ passes)
