-- A search for the first element of a list that passes a test.
use Rattle.std.proofs.Common.{◌≡◌, ℕ, Bool, true, false, cond, List, [], ◌∷◌, map, Option, Some, None, refl, sym, ap, ◌∙◌}
use Rattle.std.specs.List.{find}
use Rattle.std.specs.Option.{option_map}
use Rattle.oct_code.specs.Code.{Code}
use Rattle.oct_ops.specs.Operation.{Block}
use Rattle.oct_period.specs.Claims.{Claim, periods_of, first_proved}
use Rattle.oct_period.specs.Periods.{is_proved, period_status, heap_value_by, heap_value, position_value_from, position_value}

module _ {X : Type 0} (p : X → Bool) where
  pub found_first : (xs rest all : List X) (x : X) → xs ≡ x ∷ rest → find p xs ≡ find p all → p x ≡ true → Some x ≡ find p all
  found_first xs rest all x is same passes = sym (ap (find p) is ∙ ap (λ b. cond b (Some x) (find p rest)) passes) ∙ same

  pub not_first : (xs rest all : List X) (x : X) → xs ≡ x ∷ rest → find p xs ≡ find p all → p x ≡ false → find p rest ≡ find p all
  not_first xs rest all x is same fails = sym (ap (find p) is ∙ ap (λ b. cond b (Some x) (find p rest)) fails) ∙ same

  -- none passes
  pub found_none : (xs all : List X) → xs ≡ [] → find p xs ≡ find p all → None ≡ find p all
  found_none xs all is same = sym (ap (find p) is) ∙ same

-- the first claim of which a test holds, and the first claim under its dot
pub find-map : {X Y : Type 0} (p : Y → Bool) (f : X → Y) (xs : List X) → find p (map f xs) ≡ option_map f (find (λ x. p (f x)) xs)
find-map p f [] = refl
find-map p f (x ∷ xs) = elim (p (f x)) as (λ b. cond b (Some (f x)) (find p (map f xs)) ≡ option_map f (cond b (Some x) (find (λ y. p (f y)) xs))) [
  | true ↦ refl
  | false ↦ find-map p f xs
]

-- the first proved claim gives the values that all claims give
module _ (blocks : List Block) (claims : List Claim) where
  first_period : find (λ p. is_proved (period_status blocks p)) (periods_of claims) ≡ option_map (λ (c : Claim). c.1) (first_proved blocks claims)
  first_period = find-map (λ p. is_proved (period_status blocks p)) (λ (c : Claim). c.1) claims

  pub heap_value-first : (c : Code) (found : Option Claim) (n : ℕ) → found ≡ first_proved blocks claims → heap_value_by c blocks (option_map (λ (d : Claim). d.1) found) n ≡ heap_value c blocks (periods_of claims) n
  heap_value-first c found n is = ap (λ p. heap_value_by c blocks p n) (ap (option_map (λ (d : Claim). d.1)) is ∙ sym first_period)

  pub position_value-first : (c : Code) (found : Option Claim) (heaps : List ℕ) → found ≡ first_proved blocks claims → position_value_from (heap_value_by c blocks (option_map (λ (d : Claim). d.1) found)) 0 heaps ≡ position_value c blocks (periods_of claims) heaps
  position_value-first c found heaps is = ap (λ p. position_value_from (heap_value_by c blocks p) 0 heaps) (ap (option_map (λ (d : Claim). d.1)) is ∙ sym first_period)
