-- When a list is another one in order, each item once.
use Rattle.std.proofs.Common.{arith, ◌≡◌, ℕ, suc, ◌+◌, ◌≤◌, Bool, true, false, cond, List, [], ◌∷◌, get_or, refl, sym, ap, ◌∙◌, subst}
use Rattle.std.specs.List.{list_any, list_all, sum_by, dedup_from, dedup, AllByRecursion}
use Rattle.std.specs.List.Sorted.{IsSorted, IsPermutation}
use Rattle.std.specs.Ordering.{eq_by_cmp, is_eq, is_gt, is_lt, ordering_reverse, match_ordering}
use Rattle.std.specs.declared.cmp.Ordering.{Ordering}
use Rattle.std.specs.declared.cmp.Ordering.TheVariants.{Less, Equal, Greater}
use Rattle.std.specs.Cmp.{IsTotalOrder, tied_itself, first_so, second_so}
use Rattle.std.specs.FinMap.{IsAntisymmetric}
use Rattle.std.specs.BTreeSet.{insert_key}
use Rattle.std.proofs.lemmas.List.Sums.{sum_by-cons}
use Rattle.std.proofs.lemmas.List.Sorted.{sum_by-IsPermutation, list_any-IsPermutation}
use Rattle.std.proofs.lemmas.Bool.{and_from}
use Rattle.oct_code.specs.Tests.{less_from_lt}
use Rattle.oct_ops.specs.Arranged.{arranged}
use Rattle.oct_ops.specs.Sets.{set_of, listed, rises}
use Rattle.oct_ops.specs.SetLaws.{same_set, contains-set_of, listed-set_of, listed-arranged}

-- how often an item is there
abbrev ones : {K : Type 0} → (K → K → Ordering) → K → K → ℕ
ones R x y = cond (eq_by_cmp R x y) 1 0

abbrev count : {K : Type 0} → (K → K → Ordering) → K → List K → ℕ
count R x [] = 0
count R x (y ∷ ys) = ones R x y + count R x ys

count-sum : {K : Type 0} (R : K → K → Ordering) (x : K) (xs : List K) → sum_by (ones R x) xs ≡ count R x xs
count-sum R x [] = refl
count-sum R x (y ∷ ys) = sum_by-cons (ones R x) y ys ∙ ap (λ n. ones R x y + n) (count-sum R x ys)

module _ {K : Type 0} (R : K → K → Ordering) (total : IsTotalOrder R) (exact : IsAntisymmetric R) where
  -- a rising list with the same items
  pub is_arranged : (xs ys : List K) → rises R xs ≡ true → ((x : K) → list_any (eq_by_cmp R x) xs ≡ list_any (eq_by_cmp R x) ys) → xs ≡ arranged R ys
  is_arranged xs ys rising same =
      sym (listed-set_of total exact xs rising)
      ∙ ap listed (same_set total exact (set_of xs) (set_of ys) (λ x. contains-set_of total exact xs x ∙ same x ∙ sym (contains-set_of total exact ys x)))
      ∙ listed-arranged total exact ys

  none_above : (x y : K) (ys : List K) → R x y ≡ Equal → list_all (λ z. is_lt (R y z)) ys ≡ true → count R x ys ≡ 0
  none_above x y [] tied above = refl
  none_above x y (z ∷ zs) tied above =
      let less : R x z ≡ Less = ap (λ k. R k z) (exact x y tied) ∙ less_from_lt _ (first_so _ _ above) in
      let apart : ones R x z ≡ 0 = ap (λ o. cond (is_eq o) 1 0) less in
      let later : count R x zs ≡ 0 = none_above x y zs tied (second_so _ _ above) in
      omega (arith, apart, later)

  -- in a rising list no item is there twice
  pub once : (xs : List K) → rises R xs ≡ true → (x : K) → count R x xs ≤ 1
  once [] rising x = omega arith
  once (y ∷ ys) rising x =
      elim (R x y) as (λ o. R x y ≡ o → cond (is_eq o) 1 0 + count R x ys ≤ 1) [
        | Less ↦ λ _. let later = once ys (second_so _ _ rising) x in omega (arith, later)
        | Equal ↦ λ tied. let later = none_above x y ys tied (first_so _ _ rising) in omega (arith, later)
        | Greater ↦ λ _. let later = once ys (second_so _ _ rising) x in omega (arith, later)
      ] refl

-- ---- a list that was sorted in one order, and that rose in another one

sorted_tail : {K : Type 0} (S : K → K → Ordering) (y : K) (ys : List K) → IsSorted S (y ∷ ys) → IsSorted S ys
sorted_tail S y ys sorted k d low high =
    let further : suc k + 1 ≡ suc (k + 1) = omega arith in
    subst (λ n. is_lt (S (get_or (y ∷ ys) n d) (get_or ys k d)) ≡ false) further (sorted (suc k) d (omega arith) (omega (arith, high)))

module _ {K : Type 0} (R S : K → K → Ordering) (total : IsTotalOrder R) (exact : IsAntisymmetric R) (by : IsTotalOrder S) (by_exact : IsAntisymmetric S) where
  below_all : (y z : K) (zs : List K) → S y z ≡ Less → list_all (λ x. is_lt (S z x)) zs ≡ true → list_all (λ x. is_lt (S y x)) zs ≡ true
  below_all y z [] less above = refl
  below_all y z (x ∷ zs) less above =
      and_from _ _ (ap is_lt (by.trans y z x less (less_from_lt _ (first_so _ _ above)))) (below_all y z zs less (second_so _ _ above))

  sorted_rises : (xs : List K) → IsSorted S xs → ((x : K) → count R x xs ≤ 1) → rises S xs ≡ true
  sorted_rises [] sorted single = refl
  sorted_rises (y ∷ []) sorted single = refl
  sorted_rises (y ∷ z ∷ zs) sorted single =
      let first : is_lt (S z y) ≡ false = sorted 0 y (omega arith) (omega arith) in
      let rising : rises S (z ∷ zs) ≡ true = sorted_rises (z ∷ zs) (sorted_tail S y (z ∷ zs) sorted) (λ x. let all : ones R x y + count R x (z ∷ zs) ≤ 1 = single x in omega (arith, all)) in
      elim (S y z) as (λ o. S y z ≡ o → rises S (y ∷ z ∷ zs) ≡ true) [
        | Less ↦ λ less. and_from _ _ (and_from _ _ (ap is_lt less) (below_all y z zs less (first_so _ _ rising))) rising
        | Equal ↦ λ tied.
            let same : y ≡ z = by_exact y z tied in
            let here : ones R y y ≡ 1 = ap (λ o. cond (is_eq o) 1 0) (tied_itself total y) in
            let again : ones R y z ≡ 1 = ap (λ k. ones R y k) (sym same) ∙ here in
            let all : ones R y y + (ones R y z + count R y zs) ≤ 1 = single y in
            absurd (omega (arith, here, again, all))
        | Greater ↦ λ greater. let clash : true ≡ false = sym (ap is_lt (by.antisymm z y ∙ ap ordering_reverse greater)) ∙ first in cc
      ] refl

  -- sorting by S what rose by R arranges it by S
  pub sorted_is_arranged : (xs ys : List K) → rises R xs ≡ true → IsPermutation xs ys → IsSorted S ys → ys ≡ arranged S xs
  sorted_is_arranged xs ys rising permuted sorted =
      is_arranged S by by_exact ys xs
      (sorted_rises ys sorted (λ x. let few = once R total exact xs rising x in let same = sym (count-sum R x ys) ∙ sum_by-IsPermutation (ones R x) xs ys permuted ∙ count-sum R x xs in omega (arith, few, same)))
      (λ x. sym (list_any-IsPermutation (eq_by_cmp S x) xs ys permuted))

-- ---- a list that does not fall, without what is repeated

module _ {K : Type 0} (R : K → K → Ordering) where
  -- no item is below one before it
  abbrev pub NeverFalls : List K → Type 0
  NeverFalls [] = Unit {0}
  NeverFalls (x ∷ xs) = AllByRecursion (λ y. is_gt (R x y) ≡ false) xs × NeverFalls xs

module _ {K : Type 0} (R : K → K → Ordering) (same : K → K → Bool) (total : IsTotalOrder R) (exact : IsAntisymmetric R) (ties : (x y : K) → same x y ≡ eq_by_cmp R x y) where
  abbrev others : K → List K → List K
  others k [] = []
  others k (x ∷ xs) = cond (same x k) (others k xs) (x ∷ others x xs)

  headed : (k : K) (xs : List K) → dedup_from same k xs ≡ k ∷ others k xs
  headed k [] = refl
  headed k (x ∷ xs) = elim (same x k) as (λ b. cond b (dedup_from same k xs) (k ∷ dedup_from same x xs) ≡ k ∷ cond b (others k xs) (x ∷ others x xs)) [
    | true ↦ headed k xs
    | false ↦ ap (λ l. k ∷ l) (headed x xs)
  ]

  from_first : (x : K) (xs : List K) → NeverFalls R (x ∷ xs) → arranged R (x ∷ xs) ≡ x ∷ others x xs
  from_first x [] level = refl
  from_first x (y ∷ ys) level =
      ap (λ l. insert_key R l x) (from_first y ys level.1)
      ∙ elim (R x y) as (λ o. R x y ≡ o → match_ordering o (x ∷ y ∷ others y ys) (y ∷ others y ys) (y ∷ insert_key R (others y ys) x) ≡ x ∷ cond (same y x) (others x ys) (y ∷ others y ys)) [
        | Less ↦ λ less.
            let apart : same y x ≡ false = ties y x ∙ ap is_eq (total.antisymm y x ∙ ap ordering_reverse less) in
            sym (ap (λ b. x ∷ cond b (others x ys) (y ∷ others y ys)) apart)
        | Equal ↦ λ tied.
            let one : x ≡ y = exact x y tied in
            let again : same y x ≡ true = ties y x ∙ ap (λ k. eq_by_cmp R y k) one ∙ ap is_eq (tied_itself total y) in
            sym (ap (λ k. k ∷ others k ys) one) ∙ sym (ap (λ b. x ∷ cond b (others x ys) (y ∷ others y ys)) again)
        | Greater ↦ λ greater. let clash : true ≡ false = sym (ap is_gt greater) ∙ level.0.0 in cc
      ] refl

  pub dedup_is_arranged : (xs : List K) → NeverFalls R xs → dedup same xs ≡ arranged R xs
  dedup_is_arranged [] level = refl
  dedup_is_arranged (x ∷ xs) level = headed x xs ∙ sym (from_first x xs level)
