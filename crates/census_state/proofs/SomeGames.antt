-- Some games of a record, alone.
use Rattle.std.proofs.Common.{◌≡◌, ℕ, ◌+◌, true, false, cond, List, [], ◌∷◌, drop, refl, sym, ap, ◌∙◌}
use Rattle.std.specs.Prelude.{Bool, ◌||◌}
use Rattle.std.specs.List.{filter, list_any}
use Rattle.std.specs.Ordering.{eq_by_cmp}
use Rattle.oct_code.specs.Tests.{or_left_comm}
use Rattle.oct_code.specs.Code.{Code}
use Rattle.oct_ops.specs.Body.{Operation}
use Rattle.oct_ops.specs.Games.{of_code}
use Rattle.oct_ops.specs.Operations.{Operations, contains, keep, listed, union}
use Rattle.oct_ops.specs.Order.{op_cmp}
use Rattle.oct_ops.specs.OrderLaws.{op_cmp_total, op_cmp_exact}
use Rattle.oct_ops.specs.SetLaws.{contains-empty, contains-set_of, contains-union, same_set, union_assoc}
use Rattle.oct_store.specs.Summary.{of_game}
use Rattle.census_state.specs.Alone.{of_any, only_of, OnlyTheseAreKept}

-- a game more of those that are shown alone
pub game_taken : (named : List Code) (i : ℕ) (c : Code) (ops part more : Operations) → drop i named ≡ c ∷ drop (i + 1) named → more ≡ union part (of_game ops c)
    → union part (only_of (drop i named) ops) ≡ only_of named ops → union more (only_of (drop (i + 1) named) ops) ≡ only_of named ops
game_taken named i c ops part more next is all =
    ap (λ s. union s (only_of (drop (i + 1) named) ops)) is
    ∙ union_assoc op_cmp_total op_cmp_exact part (of_game ops c) (only_of (drop (i + 1) named) ops)
    ∙ ap (λ rest. union part (only_of rest ops)) (sym next) ∙ all

-- ---- the operations that are of one of them

-- none is of no game
none_of : (ops : List Operation) → filter (of_any []) ops ≡ []
none_of [] = refl
none_of (o ∷ ops) = none_of ops

twice : (z a b : Bool) → (z || (a || b)) ≡ ((z || a) || (z || b))
twice true a b = refl
twice false a b = refl

once : (z a b : Bool) → (z || (a || b)) ≡ ((z || a) || b)
once true a b = refl
once false a b = refl

-- what is found among items that pass one of two tests
any_of_both : {K : Type 0} (q p r : K → Bool) (xs : List K) → list_any q (filter (λ x. p x || r x) xs) ≡ (list_any q (filter p xs) || list_any q (filter r xs))
any_of_both q p r [] = refl
any_of_both q p r (x ∷ xs) = elim (p x) as (λ b. list_any q (cond (b || r x) (x ∷ filter (λ y. p y || r y) xs) (filter (λ y. p y || r y) xs)) ≡ (list_any q (cond b (x ∷ filter p xs) (filter p xs)) || list_any q (cond (r x) (x ∷ filter r xs) (filter r xs)))) [
  | true ↦ elim (r x) as (λ b. (q x || list_any q (filter (λ y. p y || r y) xs)) ≡ ((q x || list_any q (filter p xs)) || list_any q (cond b (x ∷ filter r xs) (filter r xs)))) [
    | true ↦ ap (λ any. q x || any) (any_of_both q p r xs) ∙ twice (q x) (list_any q (filter p xs)) (list_any q (filter r xs))
    | false ↦ ap (λ any. q x || any) (any_of_both q p r xs) ∙ once (q x) (list_any q (filter p xs)) (list_any q (filter r xs))
  ]
  | false ↦ elim (r x) as (λ b. list_any q (cond b (x ∷ filter (λ y. p y || r y) xs) (filter (λ y. p y || r y) xs)) ≡ (list_any q (filter p xs) || list_any q (cond b (x ∷ filter r xs) (filter r xs)))) [
    | true ↦ ap (λ any. q x || any) (any_of_both q p r xs) ∙ or_left_comm (q x) (list_any q (filter p xs)) (list_any q (filter r xs))
    | false ↦ any_of_both q p r xs
  ]
]

contains-keep : (p : Operation → Bool) (ops : Operations) (o : Operation) → contains (keep p ops) o ≡ list_any (eq_by_cmp op_cmp o) (filter p (listed ops))
contains-keep p ops o = contains-set_of op_cmp_total op_cmp_exact (filter p (listed ops)) o

only_has : (named : List Code) (ops : Operations) (o : Operation) → contains (only_of named ops) o ≡ contains (keep (of_any named) ops) o
only_has [] ops o =
    contains-empty op_cmp_total op_cmp_exact o ∙ sym (contains-keep (of_any []) ops o ∙ ap (list_any (eq_by_cmp op_cmp o)) (none_of (listed ops)))
only_has (c ∷ named) ops o =
    contains-union op_cmp_total op_cmp_exact (of_game ops c) (only_of named ops) o
    ∙ (λ i. contains-keep (of_code c) ops o i || (only_has named ops o ∙ contains-keep (of_any named) ops o) i)
    ∙ sym (contains-keep (of_any (c ∷ named)) ops o ∙ any_of_both (eq_by_cmp op_cmp o) (of_code c) (of_any named) (listed ops))

pub only_is_kept : OnlyTheseAreKept
only_is_kept named ops = same_set op_cmp_total op_cmp_exact (only_of named ops) (keep (of_any named) ops) (only_has named ops)
