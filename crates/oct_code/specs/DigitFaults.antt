-- Which digits are a code, and the first fault of others.
use Rattle.std.specs.Prelude.{ℕ, Bool, not, nat_eq, ◌||◌, ◌==◌, ◌-◌, slice_get, nat_le, nat_lt, if◌then◌else◌, List, length, Result, Ok, Err, Some}
use Rattle.std.specs.List.{list_all}
use Rattle.std.specs.Option.{option_eq}
use Rattle.std.specs.Result.{result_map_both}
use Rattle.oct_code.specs.Code.{Code}
use Rattle.oct_code.specs.declared.limits.TheConstants.{MAX_DIGITS}
use Rattle.oct_code.specs.declared.error.DigitsError.{DigitsError}
use Rattle.oct_code.specs.declared.error.DigitsError.TheVariants.{Head, Long, Digit, Trailing}

abbrev pub is_head : ℕ → Bool
is_head d = (d == 0) || (d == 4)

abbrev pub are_octal : List ℕ → Bool
are_octal digits = list_all (λ d. nat_le d 7) digits

-- the last digit is 0
abbrev pub ends_in_zero : List ℕ → Bool
ends_in_zero digits = option_eq nat_eq (slice_get digits (length digits - 1)) (Some 0)

abbrev pub digits_fault : ℕ → List ℕ → Result (Unit {0}) DigitsError
digits_fault head digits =
    if not (is_head head) then Err Head
    else (if nat_lt MAX_DIGITS (length digits) then Err Long
    else (if not (are_octal digits) then Err Digit
    else (if ends_in_zero digits then Err Trailing
    else Ok tt)))

abbrev pub checked_code : ℕ → List ℕ → Result Code DigitsError
checked_code head digits = result_map_both (λ _. record { head = head; digits = digits }) (λ fault. fault) (digits_fault head digits)
