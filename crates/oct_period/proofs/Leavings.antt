-- A search through the pairs of heaps that a removal may leave.
use Rattle.std.proofs.Common.{◌≡◌, ℕ, ◌-◌, ◌/◌, ◌<◌, ◌≤◌, min, Bool, true, false, ◌&&◌, ◌==◌, cond, leb, if◌then◌else◌, List, [], ◌∷◌, ◌++◌, map, Some, None, ◌⊎◌, inl, inr, refl, sym, ap, ◌∙◌, subst, arith}
use Rattle.std.proofs.lemmas.Bool.{cases_eq, le-leb, lt-leb, ne_eqb}
use Rattle.std.specs.List.{find}
use Rattle.std.specs.Option.{option_map}
use Rattle.oct_code.specs.Code.{Code, allows}
use Rattle.oct_mex.specs.Moves.{Heaps, leavings, splits}
use Rattle.oct_period.specs.Moving.{has_value, move_with, moves_removing, AreNear}
use Rattle.oct_period.specs.declared.moving.Move.{Move}
use Rattle.oct_period.proofs.Finding.{find-each_none, find-each_some}
use Rattle.oct_period.proofs.FirstProved.{find-map}

-- ---- at most one heap

abbrev at_most_one : Code → ℕ → ℕ → List Heaps
at_most_one c r m = (if leb 1 r && (m == 0) && allows c r 0 then (0, 0) ∷ [] else []) ++ (if leb 1 r && leb 1 m && allows c r 1 then (0, m) ∷ [] else [])

none_left : (s a0 a1 : Bool) → ◌≡◌ {A = List Heaps} ((if s && true && a0 then (0, 0) ∷ [] else []) ++ (if s && false && a1 then (0, 0) ∷ [] else [])) (if s && a0 then (0, 0) ∷ [] else [])
none_left true true true = refl
none_left true true false = refl
none_left true false true = refl
none_left true false false = refl
none_left false true true = refl
none_left false true false = refl
none_left false false true = refl
none_left false false false = refl

one_left : (s a0 a1 : Bool) (m : ℕ) → ◌≡◌ {A = List Heaps} ((if s && false && a0 then (0, 0) ∷ [] else []) ++ (if s && true && a1 then (0, m) ∷ [] else [])) (if s && a1 then (0, m) ∷ [] else [])
one_left true true true m = refl
one_left true true false m = refl
one_left true false true m = refl
one_left true false false m = refl
one_left false true true m = refl
one_left false true false m = refl
one_left false false true m = refl
one_left false false false m = refl

pub one_is : (c : Code) (r m : ℕ) → at_most_one c r m ≡ (if leb 1 r && allows c r (min m 1) then (0, m) ∷ [] else [])
one_is c r m = elim (cases_eq m 0) [
  | inl none ↦ subst (λ k. at_most_one c r k ≡ (if leb 1 r && allows c r (min k 1) then (0, k) ∷ [] else [])) (sym none) (none_left (leb 1 r) (allows c r 0) (allows c r 1))
  | inr some ↦
      let is : (m == 0) ≡ false = ne_eqb m 0 some in
      let more : leb 1 m ≡ true = le-leb 1 m (omega arith) in
      let one : min m 1 ≡ 1 = omega arith in
      ap (λ b. (if leb 1 r && b && allows c r 0 then (0, 0) ∷ [] else []) ++ (if leb 1 r && leb 1 m && allows c r 1 then (0, m) ∷ [] else [])) is
      ∙ ap (λ b. (if leb 1 r && false && allows c r 0 then (0, 0) ∷ [] else []) ++ (if leb 1 r && b && allows c r 1 then (0, m) ∷ [] else [])) more
      ∙ one_left (leb 1 r) (allows c r 0) (allows c r 1) m ∙ ap (λ k. if leb 1 r && allows c r k then (0, m) ∷ [] else []) (sym one)
]

-- ---- all that may be left

by_tests : (p : Heaps → Bool) (one two : Bool) (m : ℕ) → find p ((if one then (0, m) ∷ [] else []) ++ (if two then splits m else [])) ≡ cond (one && p (0, m)) (Some (0, m)) (cond two (find p (splits m)) None)
by_tests p true true m = refl
by_tests p true false m = refl
by_tests p false true m = refl
by_tests p false false m = refl

pub leaving_found : (p : Heaps → Bool) (c : Code) (r m : ℕ) → find p (leavings c r m)
    ≡ cond ((leb 1 r && allows c r (min m 1)) && p (0, m)) (Some (0, m)) (cond (allows c r 2) (find p (splits m)) None)
leaving_found p c r m = ap (λ (xs : List Heaps). find p (xs ++ (if allows c r 2 then splits m else []))) (one_is c r m) ∙ by_tests p (leb 1 r && allows c r (min m 1)) (allows c r 2) m

-- by the answers to the three tests
pub leaving_by : (p : Heaps → Bool) (c d : Code) (r m : ℕ) (may is two : Bool) → d ≡ c → may ≡ (leb 1 r && allows d r (min m 1)) → is ≡ p (0, m) → two ≡ allows d r 2
    → find p (leavings c r m) ≡ cond (may && is) (Some (0, m)) (cond two (find p (splits m)) None)
leaving_by p c d r m may is two same may_is is_is two_is =
    let one : may ≡ (leb 1 r && allows c r (min m 1)) = may_is ∙ ap (λ e. leb 1 r && allows e r (min m 1)) same in
    let split : two ≡ allows c r 2 = two_is ∙ ap (λ e. allows e r 2) same in
    leaving_found p c r m ∙ sym (λ i. cond (one i && is_is i) (Some (0, m)) (cond (split i) (find p (splits m)) None))

pub not_both : (a b : Bool) → ((a ≡ true) × (b ≡ false)) ⊎ (a ≡ false) → (a && b) ≡ false
not_both a b (inl one) = (λ i. one.0 i && one.1 i)
not_both a b (inr none) = ap (λ t. t && b) none

-- ---- the moves that remove so many beans

module _ (c : Code) (index n k wanted : ℕ) where
  pub removing_found : k ≤ n → find (λ (m : Move). has_value c wanted m.left) (moves_removing c index n k) ≡ option_map (move_with index k) (find (has_value c wanted) (leavings c k (n - k)))
  removing_found held =
      ap (λ (b : Bool). find (λ (m : Move). has_value c wanted m.left) (map (move_with index k) (if b then leavings c k (n - k) else []))) (le-leb k n held)
      ∙ find-map (λ (m : Move). has_value c wanted m.left) (move_with index k) (leavings c k (n - k))

  pub removing_none : n < k → find (λ (m : Move). has_value c wanted m.left) (moves_removing c index n k) ≡ None
  removing_none less = ap (λ (b : Bool). find (λ (m : Move). has_value c wanted m.left) (map (move_with index k) (if b then leavings c k (n - k) else []))) (lt-leb k n less)

-- ---- splits

module _ (c : Code) (wanted m : ℕ) where
  pub split_found : (a : ℕ) → 1 ≤ a → a ≤ m / 2 → has_value c wanted (a, m - a) ≡ true → ((k : ℕ) → 1 ≤ k → k < a → has_value c wanted (k, m - k) ≡ false)
      → find (has_value c wanted) (splits m) ≡ Some (a, m - a)
  split_found a some low here before = find-each_some (has_value c wanted) (λ k. (k, m - k)) 1 (m / 2) a some (omega arith) here before

  -- none has the value where none of the near ones has it
  pub no_split_found : (end : ℕ) → AreNear c m end → ((k : ℕ) → 1 ≤ k → k < end → has_value c wanted (k, m - k) ≡ false) → find (has_value c wanted) (splits m) ≡ None
  no_split_found end near none = find-each_none (has_value c wanted) (λ k. (k, m - k)) 1 (m / 2)
      (λ a some low.
      let n = near a some (omega arith) in
      ap (λ v. v == wanted) (sym n.1.same) ∙ none n.0 n.1.some n.1.below)
