-- A set of a list holds each item of the list.
use Rattle.std.proofs.Common.{◌≡◌, Bool, true, ◌||◌, List, [], ◌∷◌, refl, ap, ◌∙◌}
use Rattle.std.specs.List.{list_all, list_any}
use Rattle.std.specs.declared.cmp.Ordering.{Ordering}
use Rattle.std.specs.Ordering.{eq_by_cmp}
use Rattle.std.specs.Cmp.{IsTotalOrder, eq_by_cmp_equiv, first_so, second_so}
use Rattle.std.specs.FinSet.{IsAntisymmetric}
use Rattle.std.proofs.lemmas.Bool.{and_from, or_right}
use Rattle.oct_ops.specs.Sets.{contains, set_of}
use Rattle.oct_ops.specs.SetLaws.{contains-set_of}

all_weaker : {K : Type 0} (p q : K → Bool) (xs : List K) → ((x : K) → p x ≡ true → q x ≡ true) → list_all p xs ≡ true → list_all q xs ≡ true
all_weaker p q [] h k = refl
all_weaker p q (x ∷ xs) h k = and_from (q x) (list_all q xs) (h x (first_so (p x) (list_all p xs) k)) (all_weaker p q xs h (second_so (p x) (list_all p xs) k))

module _ {K : Type 0} {R : K → K → Ordering} (total : IsTotalOrder R) (exact : IsAntisymmetric R) where
  among : (xs : List K) → list_all (λ x. list_any (eq_by_cmp R x) xs) xs ≡ true
  among [] = refl
  among (x ∷ xs) =
      and_from _ _ (ap (λ b. b || list_any (eq_by_cmp R x) xs) ((eq_by_cmp_equiv total).refl x))
      (all_weaker (λ y. list_any (eq_by_cmp R y) xs) (λ y. list_any (eq_by_cmp R y) (x ∷ xs)) xs (λ y h. or_right (eq_by_cmp R y x) (list_any (eq_by_cmp R y) xs) h) (among xs))

  pub each_held : (xs : List K) → list_all (contains (set_of {R = R} xs)) xs ≡ true
  each_held xs = all_weaker (λ x. list_any (eq_by_cmp R x) xs) (contains (set_of {R = R} xs)) xs (λ x h. contains-set_of total exact xs x ∙ h) (among xs)
