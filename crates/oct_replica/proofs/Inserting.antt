-- What is read off a set after an insertion.
use Rattle.std.proofs.Common.{◌≡◌, Bool, true, false, ◌||◌, cond, List, [], ◌∷◌, Option, Some, None, refl, sym, ap, ◌∙◌}
use Rattle.std.specs.List.{filter, filter_map, cons_option, list_any}
use Rattle.std.specs.declared.cmp.Ordering.{Ordering}
use Rattle.std.specs.declared.cmp.Ordering.TheVariants.{Less, Equal, Greater}
use Rattle.std.specs.Ordering.{is_eq, match_ordering}
use Rattle.std.specs.Cmp.{IsTotalOrder, tied_itself}
use Rattle.std.specs.FinSet.{IsAntisymmetric}
use Rattle.std.specs.BTreeSet.{insert_key}
use Rattle.std.proofs.Math.Bool.{or_self_left}
use Rattle.oct_code.specs.Tests.{or_left_comm}
use Rattle.oct_ops.specs.Sets.{Set, contains, insert, set_of}
use Rattle.oct_ops.specs.SetLaws.{contains-insert, insert_comm, insert_held}

-- with one element more, where there is one
abbrev pub insert_option : {Y : Type 0} {R : Y → Y → Ordering} → Set R → Option Y → Set R
insert_option s None = s
insert_option s (Some y) = insert s y

module _ {K : Type 0} {R : K → K → Ordering} (exact : IsAntisymmetric R) {Y : Type 0} {S : Y → Y → Ordering} (total : IsTotalOrder S) (antisymmetric : IsAntisymmetric S) where
  set_of-cons_option : (m : Option Y) (ys : List Y) → set_of {R = S} (cons_option m ys) ≡ insert_option (set_of ys) m
  set_of-cons_option None ys = refl
  set_of-cons_option (Some y) ys = refl

  again : (s : Set S) (m : Option Y) → insert_option (insert_option s m) m ≡ insert_option s m
  again s None = refl
  again s (Some y) = insert_held total antisymmetric (insert s y) y (contains-insert total antisymmetric s y y ∙ ap (λ o. is_eq o || contains s y) (tied_itself total y))

  turned : (s : Set S) (m n : Option Y) → insert_option (insert_option s m) n ≡ insert_option (insert_option s n) m
  turned s None None = refl
  turned s None (Some y) = refl
  turned s (Some x) None = refl
  turned s (Some x) (Some y) = insert_comm total antisymmetric s x y

  -- what is found in a rising list with one item more
  pub filter_map-insert : (f : K → Option Y) (xs : List K) (x : K) → set_of {R = S} (filter_map f (insert_key R xs x)) ≡ insert_option (set_of (filter_map f xs)) (f x)
  filter_map-insert f [] x = set_of-cons_option (f x) []
  filter_map-insert f (e ∷ xs) x =
      elim (R x e) as (λ o. R x e ≡ o → set_of {R = S} (filter_map f (match_ordering o (x ∷ e ∷ xs) (e ∷ xs) (e ∷ insert_key R xs x))) ≡ insert_option (set_of (filter_map f (e ∷ xs))) (f x)) [
        | Less ↦ λ _. set_of-cons_option (f x) (filter_map f (e ∷ xs))
        | Equal ↦ λ tie.
            set_of-cons_option (f e) (filter_map f xs)
            ∙ sym (again (set_of (filter_map f xs)) (f e))
            ∙ (λ i. insert_option (sym (set_of-cons_option (f e) (filter_map f xs)) i) (f (sym (exact x e tie) i)))
        | Greater ↦ λ _.
            set_of-cons_option (f e) (filter_map f (insert_key R xs x))
            ∙ ap (λ s. insert_option s (f e)) (filter_map-insert f xs x)
            ∙ turned (set_of (filter_map f xs)) (f x) (f e)
            ∙ ap (λ s. insert_option s (f x)) (sym (set_of-cons_option (f e) (filter_map f xs)))
      ] refl

-- the item, where the test is true
abbrev pub if_true : {X : Type 0} → Bool → X → Option X
if_true true x = Some x
if_true false x = None

pub filter-map : {X : Type 0} (p : X → Bool) (xs : List X) → filter p xs ≡ filter_map (λ x. if_true (p x) x) xs
filter-map p [] = refl
filter-map p (x ∷ xs) = elim (p x) as (λ b. cond b (x ∷ filter p xs) (filter p xs) ≡ cons_option (if_true b x) (filter_map (λ y. if_true (p y) y) xs)) [
  | true ↦ ap (λ ys. x ∷ ys) (filter-map p xs)
  | false ↦ filter-map p xs
]

-- whether some item passes, with one item more
pub any-insert : {K : Type 0} {R : K → K → Ordering} (exact : IsAntisymmetric R) (q : K → Bool) (xs : List K) (x : K) → list_any q (insert_key R xs x) ≡ (q x || list_any q xs)
any-insert exact q [] x = refl
any-insert {R = R} exact q (e ∷ xs) x =
    elim (R x e) as (λ o. R x e ≡ o → list_any q (match_ordering o (x ∷ e ∷ xs) (e ∷ xs) (e ∷ insert_key R xs x)) ≡ (q x || (q e || list_any q xs))) [
      | Less ↦ λ _. refl
      | Equal ↦ λ tie. sym (or_self_left (q e) (list_any q xs)) ∙ ap (λ y. q y || (q e || list_any q xs)) (sym (exact x e tie))
      | Greater ↦ λ _. ap (λ b. q e || b) (any-insert exact q xs x) ∙ or_left_comm (q e) (q x) (list_any q xs)
    ] refl
