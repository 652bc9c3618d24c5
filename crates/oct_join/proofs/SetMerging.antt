-- A set that takes in the elements of another, one after the other.
use Rattle.std.specs.Prelude.{◌≡◌, true, false, ◌||◌, List, [], ◌∷◌}
use Rattle.std.proofs.Common.{sym, ap, subst, ◌∙◌}
use Rattle.std.specs.declared.cmp.Ordering.{Ordering}
use Rattle.std.specs.Ordering.{is_eq}
use Rattle.std.specs.Cmp.{IsTotalOrder, tied_itself}
use Rattle.std.proofs.lemmas.Bool.{false≢true}
use Rattle.std.specs.FinMap.{IsAntisymmetric}
use Rattle.oct_ops.specs.Sets.{Set, contains, insert, set_of, union, listed, IsSubset}
use Rattle.oct_ops.specs.SetLaws.{contains-insert, set_of-listed, union_left, union_right, union_least, union-insert, union-insert_left, union-empty}
use Rattle.oct_join.specs.Order.{IsBetween}

module _ {K : Type 0} {R : K → K → Ordering} (total : IsTotalOrder R) (exact : IsAntisymmetric R) where
  insert_above : (s : Set R) (x : K) → IsSubset s (insert s x)
  insert_above s x = subst (λ t. IsSubset s t) (union-insert total exact s (set_of []) x ∙ ap (λ t. insert t x) (union-empty total exact s)) (union_left total exact s (set_of (x ∷ [])))

  -- `now` grew from `old`, and with `rest`, which is still to come, it is the union of `old` and `other`
  pub record JoinsAlong (old other now : Set R) (rest : List K) : Type 0 where
    pub grown : IsSubset old now
    pub completes : union now (set_of rest) ≡ union old other

  pub joins_start : (old other : Set R) (all : List K) → all ≡ listed other → JoinsAlong old other old all
  joins_start old other all is_all = record { grown = λ x h. h; completes = ap (union old) (ap set_of is_all ∙ set_of-listed total exact other) }

  pub joins_next : (old other now new : Set R) (all : List K) (x : K) (rest : List K) → all ≡ x ∷ rest → new ≡ insert now x → JoinsAlong old other now all → JoinsAlong old other new rest
  joins_next old other now new all x rest next added along = record {
    grown = λ y h. subst (λ s. contains s y ≡ true) (sym added) (insert_above now x y (along.grown y h));
    completes =
        ap (λ s. union s (set_of rest)) added ∙ union-insert_left total exact now (set_of rest) x ∙ sym (union-insert total exact now (set_of rest) x)
        ∙ ap (λ xs. union now (set_of xs)) (sym next) ∙ along.completes;
  }

  pub joins_done : (old other now : Set R) (all : List K) → all ≡ [] → JoinsAlong old other now all → now ≡ union old other
  joins_done old other now all none along = sym (union-empty total exact now) ∙ ap (λ xs. union now (set_of xs)) (sym none) ∙ along.completes

  -- what is missing, and still to come, is no part of the old set
  pub joins_lack : (old other now : Set R) (all : List K) (x : K) (rest : List K) → all ≡ x ∷ rest → contains now x ≡ false → JoinsAlong old other now all → ¬ IsSubset other old
  joins_lack old other now all x rest next missing along within =
      let comes : contains (set_of all) x ≡ true =
      ap (λ xs. contains (set_of {R = R} xs) x) next ∙ contains-insert total exact (set_of rest) x x ∙ ap (λ o. is_eq o || contains {R = R} (set_of rest) x) (tied_itself total x) in
      let held = union_least total exact old other old (λ y h. h) within x (ap (λ s. contains s x) (sym along.completes) ∙ union_right total exact now (set_of all) x comes) in
      false≢true (sym missing ∙ along.grown x held)

  pub joins_between : (old other now : Set R) (rest : List K) → JoinsAlong old other now rest → IsBetween IsSubset old now (union old other)
  joins_between old other now rest along = record { lower = along.grown; upper = subst (λ s. IsSubset now s) along.completes (union_left total exact now (set_of rest)) }
