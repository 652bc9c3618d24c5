-- A search for a dot in a list of dots in order.
use Rattle.std.proofs.Common.{arith, ◌≡◌, ℕ, inl, inr, List, length, get_or, Result, Ok, Err, sym, ap, ◌∙◌, subst}
use Rattle.std.specs.Prelude.{is_ok}
use Rattle.std.specs.List.{list_any}
use Rattle.std.specs.List.Sorted.{IsSorted, IsSearchInRange, IsBinarySearchResult}
use Rattle.std.specs.Ordering.{eq_by_cmp, is_eq}
use Rattle.std.specs.Cmp.{eq_by_cmp_equiv}
use Rattle.std.proofs.lemmas.List.Folds.{list_any_at, list_any_none}
use Rattle.std.proofs.lemmas.List.Sorted.{searchable_from_sorted}
use Rattle.std.proofs.lemmas.Bool.{cases_lt}
use Rattle.oct_ops.specs.DotOrder.{dot_cmp}
use Rattle.oct_ops.specs.Operation.{Dot}
use Rattle.oct_ops.specs.OrderLaws.{dot_cmp_total}

-- a dot is found exactly where it is in the list
found : (dots : List Dot) (d : Dot) (r : Result ℕ ℕ) → IsSorted dot_cmp dots → IsSearchInRange r (length dots) → IsBinarySearchResult (λ e. dot_cmp e d) dots r → is_ok r ≡ list_any (eq_by_cmp dot_cmp d) dots
found dots d (Ok i) sorted in_range at =
    sym (list_any_at (eq_by_cmp dot_cmp d) dots i d in_range ((eq_by_cmp_equiv dot_cmp_total).symm d (get_or dots i d) ∙ ap is_eq (at d)))
found dots d (Err i) sorted in_range at =
    let apart = at (searchable_from_sorted dot_cmp_total (λ e. e) dots d sorted) in
    sym (list_any_none (eq_by_cmp dot_cmp d) dots (λ k e inside.
    (eq_by_cmp_equiv dot_cmp_total).symm d (get_or dots k e)
    ∙ elim (cases_lt k i) [
      | inl below ↦ ap is_eq (apart.0 k e (omega arith) below)
      | inr above ↦ ap is_eq (apart.1 k e above inside)
    ]))

pub found_at : (seen inside dots : List Dot) (d : Dot) (r : Result ℕ ℕ) → seen ≡ inside → inside ≡ dots → IsSorted dot_cmp inside → IsSearchInRange r (length seen) → IsBinarySearchResult (λ e. dot_cmp e d) seen r → is_ok r ≡ list_any (eq_by_cmp dot_cmp d) dots
found_at seen inside dots d r same shown sorted in_range at =
    found seen d r (subst (IsSorted dot_cmp) (sym same) sorted) in_range at ∙ ap (list_any (eq_by_cmp dot_cmp d)) (same ∙ shown)
