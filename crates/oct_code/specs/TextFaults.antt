-- The first fault of a text that is no code's.
use Rattle.std.specs.Prelude.{ℕ, ◌==◌, Bool, true, false, not, ◌&&◌, ◌||◌, nat_le, nat_lt, cond, if◌then◌else◌, List, [], ◌∷◌, length, map, ◌-◌, Option, Some, None, Result, Ok, Err}
use denote.Ref.{Bor}
use Rattle.std.specs.List.{list_all}
use Rattle.oct_code.specs.declared.error.CodeError.{CodeError}
use Rattle.oct_code.specs.declared.error.CodeError.TheVariants.{Form, Head, Digit, Long}
use Rattle.oct_code.specs.declared.limits.TheConstants.{MAX_DIGITS}
use Rattle.oct_code.specs.Code.{Code}

abbrev pub is_empty : List ℕ → Bool
is_empty [] = true
is_empty (b ∷ bytes) = false

-- a list without the zeros at its end, as bytes
abbrev pub trimmed : List ℕ → List ℕ
trimmed [] = []
trimmed (b ∷ bytes) = cond ((b == 48) && is_empty (trimmed bytes)) [] (b ∷ trimmed bytes)

abbrev pub parts : ℕ → List ℕ → Option (ℕ × List ℕ)
parts head bytes = Some (head, bytes)

abbrev pub after_head : ℕ → List ℕ → Option (ℕ × List ℕ)
after_head head [] = None
after_head head (b ∷ bytes) = if b == 46 then parts head bytes else None

-- the head's byte, which is that of 0 where there is none, and the bytes after the point
abbrev pub around_point : List ℕ → Option (ℕ × List ℕ)
around_point [] = None
around_point (b ∷ bytes) = if b == 46 then parts 48 bytes else after_head b bytes

abbrev pub is_head_byte : ℕ → Bool
is_head_byte b = (b == 48) || (b == 52)

abbrev pub is_digit_byte : ℕ → Bool
is_digit_byte b = nat_le 48 b && nat_le b 55

abbrev pub are_digit_bytes : List ℕ → Bool
are_digit_bytes bytes = list_all is_digit_byte bytes

-- the fault of a head's byte and of the bytes after the point
abbrev pub parts_fault : ℕ → List ℕ → Option CodeError
parts_fault head bytes =
    if is_empty bytes then Some Form
    else (if not (is_head_byte head) then Some Head
    else (if not (are_digit_bytes bytes) then Some Digit
    else (if nat_lt MAX_DIGITS (length (trimmed bytes)) then Some Long
    else None)))

-- the fault of a text with these parts: it lacks its form where it has none
abbrev pub fault_of_parts : Option (ℕ × List ℕ) → Option CodeError
fault_of_parts None = Some Form
fault_of_parts (Some found) = parts_fault found.0 found.1

abbrev pub text_fault : List ℕ → Option CodeError
text_fault text = fault_of_parts (around_point text)

-- what the digits' bytes spell
abbrev pub digits_of : List ℕ → List ℕ
digits_of bytes = map (λ b. b - 48) bytes

-- the code of a head's byte, and of the bytes after the point, whose zeros at the end are dropped
abbrev pub code_of_parts : Option (ℕ × List ℕ) → Code
code_of_parts None = record { head = 0; digits = [] }
code_of_parts (Some p) = record { head = p.0 - 48; digits = digits_of (trimmed p.1) }

-- the parts that a function lends, as values
abbrev pub parts_now : Option (ℕ × Bor (List ℕ)) → Option (ℕ × List ℕ)
parts_now None = None
parts_now (Some lent) = parts lent.0 lent.1.now

abbrev pub result_err : Result (Unit {0}) CodeError → Option CodeError
result_err (Ok _) = None
result_err (Err fault) = Some fault
