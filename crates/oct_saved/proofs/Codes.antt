-- The digits of a code are accepted.
use Rattle.std.proofs.Common.{◌≡◌, ◌⊎◌, ℕ, ◌-◌, ◌≤◌, Bool, true, false, not, cond, List, [], ◌∷◌, length, Result, Ok, Err, refl, sym, ◌∙◌, ap, ap₂, arith, le-leb}
use Rattle.std.specs.Prelude.{nat_lt, slice_get}
use Rattle.std.specs.List.{AllByRecursion}
use Rattle.std.specs.Result.{result_map_both}
use Rattle.std.proofs.lemmas.Bool.{and_from, le-ltb}
use Rattle.std.proofs.lemmas.Bool.Decides.{nat_tests}
use Rattle.std.proofs.lemmas.List.Elements.{recursion_from_All}
use Rattle.oct_code.specs.Code.{Code, IsCode}
use Rattle.oct_code.specs.DigitFaults.{are_octal, checked_code, digits_fault, ends_in_zero, is_head}
use Rattle.oct_code.specs.declared.error.DigitsError.{DigitsError}
use Rattle.oct_code.specs.declared.limits.TheConstants.{MAX_DIGITS}
use Rattle.oct_code.proofs.CodeLaws.{last_is}

all_octal : (digits : List ℕ) → AllByRecursion (λ d. d ≤ 7) digits → are_octal digits ≡ true
all_octal [] h = refl
all_octal (d ∷ digits) h = and_from _ _ (le-leb d 7 h.0) (all_octal digits h.1)

head_passes : (d : ℕ) → (d ≡ 0) ⊎ (d ≡ 4) → not (is_head d) ≡ false
head_passes d h = grind (arith, nat_tests)

abbrev Passes : Result (Unit {0}) DigitsError
Passes = Ok tt

faultless : (c : Code) → IsCode c → digits_fault c.head c.digits ≡ Ok tt
faultless c h =
    let octal : not (are_octal c.digits) ≡ false = ap not (all_octal c.digits (recursion_from_All (λ d. d ≤ 7) c.digits h.octal)) in
    let room : nat_lt MAX_DIGITS (length c.digits) ≡ false = le-ltb _ _ h.len in
    let last : ends_in_zero c.digits ≡ false = last_is (slice_get c.digits (length c.digits - 1)) h.last in
    all_pass (not (is_head c.head)) (nat_lt MAX_DIGITS (length c.digits)) (not (are_octal c.digits)) (ends_in_zero c.digits) _ _ _ _ (head_passes c.head h.head) room octal last
  where
    all_pass : (a b c d : Bool) (w x y z : DigitsError) → a ≡ false → b ≡ false → c ≡ false → d ≡ false → cond a (Err w) (cond b (Err x) (cond c (Err y) (cond d (Err z) (Ok tt)))) ≡ Passes
    all_pass a b c d w x y z e f g h = rw (e, f, g, h) refl

-- no code has a head and digits in which there is a fault
pub not_refused : (head : ℕ) (digits : List ℕ) (fault : DigitsError) → checked_code head digits ≡ Err fault → (c : Code) → IsCode c → c.head ≡ head → c.digits ≡ digits → ⊥
not_refused head digits fault refused c is d0 behind =
    let made : ℕ → List ℕ → Code = λ h ds. record { head = h; digits = ds } in
    let passes : digits_fault head digits ≡ Ok tt = sym (ap₂ digits_fault d0 behind) ∙ faultless c is in
    let given : checked_code head digits ≡ Ok (made head digits) = ap (result_map_both (λ _. made head digits) (λ f. f)) passes in
    cc
