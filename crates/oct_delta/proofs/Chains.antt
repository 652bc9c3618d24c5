-- Lists whose items each follow the one before: they rise, and a rising list is one.
use Rattle.std.proofs.Common.{◌≡◌, ℕ, true, List, [], ◌∷◌, length, Option, Some, None, refl, ap}
use Rattle.std.specs.List.{list_all, flat_map, AllByRecursion}
use Rattle.std.specs.Prelude.{IsTrue}
use Rattle.std.specs.declared.cmp.Ordering.{Ordering}
use Rattle.std.specs.declared.cmp.Ordering.TheVariants.{Less}
use Rattle.std.specs.Ordering.{is_lt}
use Rattle.std.specs.Cmp.{IsTotalOrder, first_so, second_so}
use Rattle.std.specs.Cmp.Lexicographic.{slice_cmp}
use Rattle.std.proofs.lemmas.List.{append-nil}
use Rattle.std.proofs.lemmas.Bool.{and_from}
use Rattle.oct_code.specs.Tests.{less_from_lt}
use Rattle.oct_ops.specs.Sets.{rises}
use Rattle.oct_ops.specs.OrderLaws.{then_equal}
use Rattle.oct_delta.specs.Reading.{Read, checked, chain_at, follows, next_at}
use Rattle.oct_delta.proofs.Codecs.{Codec, Chained, then_codec, checked_codec, same_codec, chain_codec}

-- an item that fits and follows the one before
abbrev pub IsNext : {A : Type 0} → (A → A → Ordering) → (A → Type 0) → Option A → A → Type 0
IsNext cmp F before x = F x × IsTrue (follows cmp before x)

pub next_codec : {A : Type 0} (R : A → A → Ordering) {at : List ℕ → Read A} {text : A → List ℕ} {cmp : A → A → Ordering} {F : A → Type 0} → Codec at text cmp F → (before : Option A) → Codec (next_at R at before) text cmp (IsNext R F before)
unfolding next_at
next_codec {A} R {at} {text} {cmp} {F} item before =
    same_codec text cmp (IsNext R F before)
    (then_codec (λ x bytes. checked (follows R before x) x bytes) (λ x. x) item (λ x. checked_codec (follows R before x) x) (λ x y g. g.0))
    (λ x. append-nil (text x))
    (λ a b. then_equal (cmp a b))
    (λ x g. (g.0, g.1.1))
    (λ x h. (h.0, (refl, h.1)))

-- so many items, of which each follows the one before
pub items_codec : {A : Type 0} (R : A → A → Ordering) {at : List ℕ → Read A} {text : A → List ℕ} {cmp : A → A → Ordering} {F : A → Type 0} → Codec at text cmp F → (before : Option A) (n : ℕ)
    → Codec (chain_at (next_at R at) before n) (flat_map text) (slice_cmp cmp) (λ xs. (length xs ≡ n) × Chained (IsNext R F) before xs)
items_codec {A} R {at} {text} {cmp} {F} item before n = chain_codec (next_at R at) text cmp (IsNext R F) (next_codec R item) before n

module _ {A : Type 0} (cmp : A → A → Ordering) (F : A → Type 0) where
  pub each_from_chain : (before : Option A) (xs : List A) → Chained (IsNext cmp F) before xs → AllByRecursion F xs
  each_from_chain before [] h = tt
  each_from_chain before (x ∷ xs) h = (h.0.0, each_from_chain (Some x) xs h.1)

  pub chain_from_both : (before : Option A) (xs : List A) → IsTrue (list_all (λ x. follows cmp before x) xs) → AllByRecursion F xs → rises cmp xs ≡ true → Chained (IsNext cmp F) before xs
  chain_from_both before [] b e r = tt
  chain_from_both before (x ∷ xs) b e r = ((e.0, first_so _ _ b), chain_from_both (Some x) xs (first_so _ _ r) e.1 (second_so (list_all (λ y. is_lt (cmp x y)) xs) _ r))

  all_follow_none : (xs : List A) → IsTrue (list_all (λ x. follows cmp None x) xs)
  all_follow_none [] = refl
  all_follow_none (x ∷ xs) = all_follow_none xs

  -- a rising list of what fits
  pub chain_from_rising : (xs : List A) → AllByRecursion F xs → rises cmp xs ≡ true → Chained (IsNext cmp F) None xs
  chain_from_rising xs = chain_from_both None xs (all_follow_none xs)

  module _ (total : IsTotalOrder cmp) where
    below_rest : (x y : A) (ys : List A) → cmp x y ≡ Less → list_all (λ z. is_lt (cmp y z)) ys ≡ true → list_all (λ z. is_lt (cmp x z)) ys ≡ true
    below_rest x y [] lt h = refl
    below_rest x y (z ∷ zs) lt h = and_from _ _ (ap is_lt (total.trans x y z lt (less_from_lt _ (first_so _ _ h)))) (below_rest x y zs lt (second_so (is_lt (cmp y z)) _ h))

    below_from_chain : (x : A) (ys : List A) → Chained (IsNext cmp F) (Some x) ys → list_all (λ y. is_lt (cmp x y)) ys ≡ true
    below_from_chain x [] h = refl
    below_from_chain x (y ∷ ys) h = and_from _ _ h.0.1 (below_rest x y ys (less_from_lt _ h.0.1) (below_from_chain y ys h.1))

    pub rises_from_chain : (before : Option A) (xs : List A) → Chained (IsNext cmp F) before xs → rises cmp xs ≡ true
    rises_from_chain before [] h = refl
    rises_from_chain before (x ∷ xs) h = and_from _ _ (below_from_chain x xs h.1) (rises_from_chain (Some x) xs h.1)
