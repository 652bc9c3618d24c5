-- Digits without a fault are a code.
use Rattle.std.proofs.Common.{arith, ◌≡◌, ◌≢◌, ◌⊎◌, ◌≤◌, ℕ, Bool, true, false, not, cond, List, length, Result, Ok, Err, Some, Option, refl, ap, nat_eq, nat_le, nat_lt, get_or, leb-true}
use Rattle.std.specs.Option.{option_eq}
use Rattle.std.specs.Prelude.{slice_get, ◌-◌}
use Rattle.std.specs.List.{All}
use Rattle.std.proofs.lemmas.Bool.Decides.{nat_tests}
use Rattle.oct_code.specs.Code.{IsCode}
use Rattle.oct_code.specs.declared.limits.TheConstants.{MAX_DIGITS}
use Rattle.oct_code.specs.DigitFaults.{is_head, are_octal, ends_in_zero, digits_fault}
use Rattle.oct_code.specs.declared.error.DigitsError.{DigitsError}
use Rattle.oct_code.specs.declared.error.DigitsError.TheVariants.{Head, Long, Digit, Trailing}
use Rattle.std.proofs.lemmas.List.Sums.{AllPass-from_list_all}
use Rattle.std.proofs.lemmas.Bool.{not-false}
use borrow.Author.Tests.{ltb-false}

-- what passes a guard passed its test, and what follows
guard_ok : {A E : Type 0} (b : Bool) (e : E) (x : Result A E) (y : A) → cond b (Err e) x ≡ Ok y → (b ≡ false) × (x ≡ Ok y)
guard_ok true e x y h = cc
guard_ok false e x y h = (refl, h)

head_passes : (d : ℕ) → not (is_head d) ≡ false → (d ≡ 0) ⊎ (d ≡ 4)
head_passes d h = grind (arith, nat_tests)

not_last : (o : Option ℕ) → option_eq nat_eq o (Some 0) ≡ false → o ≢ Some 0
not_last o h e = let tied : option_eq nat_eq o (Some 0) ≡ true = ap (λ p. option_eq nat_eq p (Some 0)) e in cc

short : (n : ℕ) → nat_lt MAX_DIGITS n ≡ false → n ≤ MAX_DIGITS
short n h = ltb-false MAX_DIGITS n h

octal : (digits : List ℕ) → not (are_octal digits) ≡ false → All (λ d. d ≤ 7) digits
octal digits h k d below = leb-true (get_or digits k d) 7 (AllPass-from_list_all (λ e. nat_le e 7) digits (not-false _ h) k d below)

pub accepted : (head : ℕ) (digits : List ℕ) → digits_fault head digits ≡ Ok tt → IsCode (record { head = head; digits = digits })
accepted head digits ok =
    let last : Result (Unit {0}) DigitsError = cond (ends_in_zero digits) (Err Trailing) (Ok tt) in
    let octals : Result (Unit {0}) DigitsError = cond (not (are_octal digits)) (Err Digit) last in
    let room : Result (Unit {0}) DigitsError = cond (nat_lt MAX_DIGITS (length digits)) (Err Long) octals in
    let first = guard_ok (not (is_head head)) Head room tt ok in
    let second = guard_ok (nat_lt MAX_DIGITS (length digits)) Long octals tt first.1 in
    let third = guard_ok (not (are_octal digits)) Digit last tt second.1 in
    let fourth = guard_ok (ends_in_zero digits) Trailing (Ok tt) tt third.1 in
    record {
      head = head_passes head first.0;
      len = short (length digits) second.0;
      octal = octal digits third.0;
      last = not_last (slice_get digits (length digits - 1)) fourth.0;
    }
