-- The place of the first element that passes a test.
use Rattle.std.proofs.Common.{◌≡◌, ℕ, suc, ◌+◌, ◌≤◌, ◌-◌, ◌≢◌, ◌==◌, Bool, true, false, not, cond, List, [], ◌∷◌, length, take, drop, Some, None, refl, sym, ap, ◌∙◌, arith, length-drop}
use Rattle.std.specs.Prelude.{nat_lt, unwrap_or}
use Rattle.std.specs.List.{position, position_or_len}
use Rattle.std.proofs.lemmas.Bool.{ltb-false}
use Rattle.std.proofs.lemmas.List.{take_all}
use Rattle.std.proofs.Math.Dec.{eqb-suc-zero}

pub len-no : {X : Type 0} (p : X → Bool) (x : X) (xs : List X) → p x ≡ false → position_or_len p (x ∷ xs) ≡ suc (position_or_len p xs)
len-no p x xs fails = (λ i. cond (not (fails i)) (1 + position_or_len p xs) 0) ∙ omega arith

pub len-yes : {X : Type 0} (p : X → Bool) (x : X) (xs : List X) → p x ≡ true → position_or_len p (x ∷ xs) ≡ 0
len-yes p x xs passes = λ i. cond (not (passes i)) (1 + position_or_len p xs) 0

pub len-le : {X : Type 0} (p : X → Bool) (xs : List X) → position_or_len p xs ≤ length xs
len-le p [] = omega arith
len-le p (x ∷ xs) = by (p x) refl (len-le p xs)
  where
    by : (t : Bool) → p x ≡ t → position_or_len p xs ≤ length xs → position_or_len p (x ∷ xs) ≤ length (x ∷ xs)
    by true passes rest = rw (len-yes p x xs passes) (omega arith)
    by false fails rest = rw (len-no p x xs fails) (omega arith)

-- the place, or the length where there is none
pub len-position : {X : Type 0} (p : X → Bool) (xs : List X) → unwrap_or (position p xs) (length xs) ≡ position_or_len p xs
len-position p xs = by (nat_lt (position_or_len p xs) (length xs)) refl
  where
    by : (t : Bool) → nat_lt (position_or_len p xs) (length xs) ≡ t → unwrap_or (cond t (Some (position_or_len p xs)) None) (length xs) ≡ position_or_len p xs
    by true within = refl
    by false none = omega (arith, ltb-false (position_or_len p xs) (length xs) none, len-le p xs)

-- the rest of a list from a place on, as a slice has it
abbrev pub rest_from : {X : Type 0} → ℕ → List X → List X
rest_from k xs = take (length xs - k) (drop k xs)

pub rest_from-drop : {X : Type 0} (k : ℕ) (xs : List X) → rest_from k xs ≡ drop k xs
rest_from-drop k xs = take_all (length xs - k) (drop k xs) (omega (arith, length-drop k xs))

pub some_item : {X : Type 0} (xs : List X) → (length xs == 0) ≡ false → xs ≢ []
some_item xs filled none = let never : true ≡ false = sym (ap (λ l. length l == 0) none) ∙ filled in cc

pub no_item : {X : Type 0} (xs : List X) → (length xs == 0) ≡ true → xs ≡ []
no_item [] none = refl
no_item (x ∷ xs) none = let never : true ≡ false = sym none ∙ eqb-suc-zero (length xs) in cc
