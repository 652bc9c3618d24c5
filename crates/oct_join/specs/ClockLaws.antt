-- Clocks are partially ordered, and joining them gives their least upper bounds.
use Rattle.std.specs.Prelude.{◌≡◌, ℕ, max, Bool, true, false, cond, ◌||◌, List, [], ◌∷◌, ◌++◌, map as each, is_some, Option, Some, None, refl}
use Rattle.std.proofs.Common.{sym, ap, ◌∙◌, subst}
use Rattle.std.proofs.Math.Nat.{le_refl, le_trans, le_antisymm, le-max_left, le-max_right, max-le, max-zero, max_comm}
use Rattle.std.specs.Option.{unwrap_or}
use Rattle.std.specs.Ordering.{nat_cmp, eq_by_cmp}
use Rattle.std.specs.Cmp.{Equal-is, nat_cmp_total}
use Rattle.std.specs.List.{list_any}
use Rattle.std.specs.FinMap as map
use Rattle.std.specs.FinMap.{nat_cmp-IsAntisymmetric}
use Rattle.std.specs.FinMap.Entries.{find}
use Rattle.oct_join.specs.Order.{IsPartialOrder, IsLeastUpperBound}
use Rattle.oct_join.specs.Clock.{Clock, through, IsAtMost, IsBelow, joined}

-- the greater of two, where there is one
abbrev pub greater : Option ℕ → Option ℕ → Option ℕ
greater None y = y
greater (Some m) None = Some m
greater (Some m) (Some n) = Some (max m n)

pub IsAtMost-refl : (x : Option ℕ) → IsAtMost x x
IsAtMost-refl None = tt
IsAtMost-refl (Some m) = le_refl m

pub IsAtMost-trans : (x y z : Option ℕ) → IsAtMost x y → IsAtMost y z → IsAtMost x z
IsAtMost-trans None y z f g = tt
IsAtMost-trans (Some l) None z f g = absurd f
IsAtMost-trans (Some l) (Some m) None f g = absurd g
IsAtMost-trans (Some l) (Some m) (Some n) f g = le_trans f g

IsAtMost-antisym : (x y : Option ℕ) → IsAtMost x y → IsAtMost y x → x ≡ y
IsAtMost-antisym None None f g = refl
IsAtMost-antisym None (Some n) f g = absurd g
IsAtMost-antisym (Some m) None f g = absurd f
IsAtMost-antisym (Some m) (Some n) f g = ap Some (le_antisymm f g)

pub greater-left : (x y : Option ℕ) → IsAtMost x (greater x y)
greater-left None y = tt
greater-left (Some m) None = le_refl m
greater-left (Some m) (Some n) = le-max_left m n

greater-right : (x y : Option ℕ) → IsAtMost y (greater x y)
greater-right None y = IsAtMost-refl y
greater-right (Some m) None = tt
greater-right (Some m) (Some n) = le-max_right m n

greater-least : (x y z : Option ℕ) → IsAtMost x z → IsAtMost y z → IsAtMost (greater x y) z
greater-least None y z f g = g
greater-least (Some m) None z f g = f
greater-least (Some m) (Some n) None f g = absurd f
greater-least (Some m) (Some n) (Some o) f g = max-le f g

any-append : (p : ℕ → Bool) (xs ys : List ℕ) → list_any p (xs ++ ys) ≡ (list_any p xs || list_any p ys)
any-append p [] ys = refl
any-append p (x ∷ xs) ys = elim (p x) as (λ b. (b || list_any p (xs ++ ys)) ≡ ((b || list_any p xs) || list_any p ys)) [ true ↦ refl | false ↦ any-append p xs ys ]

-- in a list of authors with their numbers by a function, one finds that number
pub find-each : (number : ℕ → ℕ) (authors : List ℕ) (q : ℕ) → find nat_cmp q (each (λ author. (author, number author)) authors) ≡ cond (list_any (eq_by_cmp nat_cmp q) authors) (Some (number q)) None
find-each number [] q = refl
find-each number (a ∷ authors) q =
    elim (eq_by_cmp nat_cmp q a) as (λ b. eq_by_cmp nat_cmp q a ≡ b → cond b (Some (number a)) (find nat_cmp q (each (λ author. (author, number author)) authors)) ≡ cond (b || list_any (eq_by_cmp nat_cmp q) authors) (Some (number q)) None) [
      | true ↦ λ tied. ap (λ x. Some (number x)) (sym (nat_cmp-IsAntisymmetric q a ((Equal-is (nat_cmp q a)).0 tied)))
      | false ↦ λ _. find-each number authors q
    ] refl

greater-cases : (x y : Option ℕ) → cond (is_some x || is_some y) (Some (max (unwrap_or x 0) (unwrap_or y 0))) None ≡ greater x y
greater-cases None None = refl
greater-cases None (Some n) = ap Some (max_comm 0 n ∙ max-zero n)
greater-cases (Some m) None = ap Some (max-zero m)
greater-cases (Some m) (Some n) = refl

pub get-joined : (p q : Clock) (author : ℕ) → map.get (joined p q) author ≡ greater (map.get p author) (map.get q author)
get-joined p q author =
    let some = λ (r : Clock). sym (map.contains_key-keys r author) in
    map.get-from_entries nat_cmp_total _ author
    ∙ find-each (λ a. max (through p a) (through q a)) (map.keys p ++ map.keys q) author
    ∙ ap (λ b. cond b (Some (max (through p author) (through q author))) None)
    (any-append (eq_by_cmp nat_cmp author) (map.keys p) (map.keys q) ∙ (λ i. some p i || some q i))
    ∙ greater-cases (map.get p author) (map.get q author)

pub same_clock : (p q : Clock) → ((author : ℕ) → map.get p author ≡ map.get q author) → p ≡ q
same_clock = map.same_map nat_cmp_total nat_cmp-IsAntisymmetric

pub below_order : IsPartialOrder IsBelow
below_order = record {
  reflexive = λ p a. IsAtMost-refl _;
  transitive = λ p q r f g a. IsAtMost-trans _ _ _ (f a) (g a);
  antisymmetric = λ p q f g. same_clock p q (λ a. IsAtMost-antisym _ _ (f a) (g a));
}

pub joined_bound : (p q : Clock) → IsLeastUpperBound IsBelow p q (joined p q)
joined_bound p q = record {
  left = λ a. subst (IsAtMost (map.get p a)) (sym (get-joined p q a)) (greater-left _ _);
  right = λ a. subst (IsAtMost (map.get q a)) (sym (get-joined p q a)) (greater-right _ _);
  least = λ u f g a. subst (λ x. IsAtMost x (map.get u a)) (sym (get-joined p q a)) (greater-least _ _ _ (f a) (g a));
}
