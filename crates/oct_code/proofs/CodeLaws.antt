-- Codes have no fault, and their texts are those of one code.
use Rattle.std.proofs.Common.{arith, ◌≡◌, ◌≢◌, ◌⊎◌, ◌==◌, ℕ, suc, ◌+◌, ◌-◌, ◌≤◌, Bool, true, false, ◌&&◌, cond, List, [], ◌∷◌, ◌++◌, length, replicate, Result, Ok, Err, Option, Some, None, refl, sym, ap, ◌∙◌, nat_eq}
use mathlib.Core.Logic.{inl, inr}
use Rattle.std.specs.Prelude.{slice_get, codes}
use Rattle.std.specs.List.{All}
use Rattle.std.specs.Option.{option_eq}
use Rattle.std.proofs.lemmas.Bool.{ne_eqb, le-ltb, le-leb, not_from_true}
use Rattle.std.proofs.lemmas.List.Elements.{All-head, All-tail}
use Rattle.oct_code.specs.Code.{Code, IsCode}
use Rattle.oct_code.specs.CodeText.{IsCodeText, code_text, digit_bytes}
use Rattle.oct_code.specs.DigitFaults.{is_head, are_octal, digits_fault}
use Rattle.oct_code.specs.TextFaults.{trimmed, is_empty, digits_of, around_point, code_of_parts}
use Rattle.oct_code.specs.Laws.{FaultlessAreCodes, WrittenIsRead, TextHasOneCode}
use Rattle.oct_code.specs.declared.limits.TheConstants.{MAX_DIGITS}
use Rattle.oct_code.specs.declared.error.DigitsError.{DigitsError}
use Rattle.oct_code.specs.declared.error.DigitsError.TheVariants.{Head, Long, Digit, Trailing}
use Rattle.oct_code.proofs.Accepted.{accepted}
use Rattle.oct_code.proofs.Spelled.{trimmed-spelled}

-- ---- digits without a fault

pass : (b : Bool) (e : DigitsError) (x : Result (Unit {0}) DigitsError) → b ≡ false → x ≡ Ok tt → cond b (Err e) x ≡ Ok tt
pass true e x h k = cc
pass false e x h k = k

head_is : (d : ℕ) → (d ≡ 0) ⊎ (d ≡ 4) → is_head d ≡ true
head_is d (inl e) = ap is_head e
head_is d (inr e) = ap is_head e

octal_is : (digits : List ℕ) → All (λ d. d ≤ 7) digits → are_octal digits ≡ true
octal_is [] all = refl
octal_is (d ∷ digits) all =
    ap (λ b. b && are_octal digits) (le-leb d 7 (All-head (λ d. d ≤ 7) d digits all)) ∙ octal_is digits (All-tail (λ d. d ≤ 7) d digits all)

pub last_is : (o : Option ℕ) → o ≢ Some 0 → option_eq nat_eq o (Some 0) ≡ false
last_is None h = refl
last_is (Some d) h = ne_eqb d 0 (λ e. h (ap Some e))

faultless : (c : Code) → IsCode c → digits_fault c.head c.digits ≡ Ok tt
faultless c valid =
    pass _ Head _ (not_from_true _ (head_is c.head valid.head)) (pass _ Long _ (le-ltb MAX_DIGITS (length c.digits) valid.len)
    (pass _ Digit _ (not_from_true _ (octal_is c.digits valid.octal)) (pass _ Trailing _ (last_is _ valid.last) refl)))

pub faultless_are_codes : FaultlessAreCodes
faultless_are_codes c = (accepted c.head c.digits, faultless c)

-- ---- the text that is written

written_digits : (head : ℕ) (digits : List ℕ) → IsCode (record { head = head; digits = digits }) → IsCodeText (code_text (record { head = head; digits = digits })) (record { head = head; digits = digits })
written_digits head [] valid = record {
  before = digit_bytes (head ∷ []);
  zeros = 1;
  valid = valid;
  head = inr refl;
  some = omega arith;
  spelled = refl;
}
written_digits head (d ∷ digits) valid = record {
  before = digit_bytes (head ∷ []);
  zeros = 0;
  valid = valid;
  head = inr refl;
  some = omega arith;
  spelled = ap (λ ds. digit_bytes (head ∷ []) ++ codes "." ++ digit_bytes ds) (sym (append_nil (d ∷ digits)));
}
  where
    append_nil : (xs : List ℕ) → xs ++ [] ≡ xs
    append_nil [] = refl
    append_nil (x ∷ xs) = ap (λ l. x ∷ l) (append_nil xs)

pub written_is_read : WrittenIsRead
written_is_read c valid = written_digits c.head c.digits valid

-- ---- a text is that of one code

kept : (b : ℕ) (rest : List ℕ) → is_empty rest ≡ false → trimmed rest ≡ rest → trimmed (b ∷ rest) ≡ b ∷ rest
kept b rest filled same =
    ap (λ r. cond ((b == 48) && is_empty r) [] (b ∷ r)) same ∙ ap (λ t. cond ((b == 48) && t) [] (b ∷ rest)) filled ∙ none (b == 48)
  where
    none : (t : Bool) → cond (t && false) [] (b ∷ rest) ≡ b ∷ rest
    none true = refl
    none false = refl

trimmed-digits : (digits : List ℕ) → slice_get digits (length digits - 1) ≢ Some 0 → trimmed (digit_bytes digits) ≡ digit_bytes digits
trimmed-digits [] h = refl
trimmed-digits (d ∷ []) h =
    ap (λ t. cond (t && true) [] ((48 + d) ∷ [])) (ne_eqb (48 + d) 48 (λ e. let zero_digit : d ≡ 0 = omega (arith, e) in h (ap Some zero_digit)))
trimmed-digits (d ∷ e ∷ digits) h =
    let one : suc (length digits) - 1 ≡ length digits = omega arith in
    let two : suc (suc (length digits)) - 1 ≡ suc (length digits) = omega arith in
    kept (48 + d) (digit_bytes (e ∷ digits)) refl
    (trimmed-digits (e ∷ digits) (λ last. h (ap (slice_get (d ∷ e ∷ digits)) two ∙ sym (ap (slice_get (e ∷ digits)) one) ∙ last)))

digits_again : (digits : List ℕ) → digits_of (digit_bytes digits) ≡ digits
digits_again [] = refl
digits_again (d ∷ digits) = let same : 48 + d - 48 ≡ d = omega arith in λ i. same i ∷ digits_again digits i

-- the code that a text's parts spell
pub read-is : (text : List ℕ) (c : Code) → IsCodeText text c → code_of_parts (around_point text) ≡ c
read-is text c s =
    let bytes : List ℕ = digit_bytes (c.digits ++ replicate s.zeros 0) in
    let digits : digits_of (trimmed bytes) ≡ c.digits = ap digits_of (trimmed-spelled c.digits s.zeros ∙ trimmed-digits c.digits s.valid.last) ∙ digits_again c.digits in
    let code : (head : ℕ) → head ≡ c.head → ◌≡◌ {A = Code} (record { head = head; digits = digits_of (trimmed bytes) }) c = λ head is. λ i. record { head = is i; digits = digits i } in
    ap (λ t. code_of_parts (around_point t)) s.spelled ∙ elim s.head [
      | inl w ↦ ap (λ b. code_of_parts (around_point (b ++ codes "." ++ bytes))) w.0 ∙ code 0 (sym w.1)
      | inr w ↦ ap (λ b. code_of_parts (around_point (b ++ codes "." ++ bytes))) w ∙ elim s.valid.head [
        | inl z ↦ ap (λ h. code_of_parts (around_point (digit_bytes (h ∷ []) ++ codes "." ++ bytes))) z ∙ code 0 (sym z)
        | inr z ↦ ap (λ h. code_of_parts (around_point (digit_bytes (h ∷ []) ++ codes "." ++ bytes))) z ∙ code 4 (sym z)
      ]
    ]

pub text_has_one_code : TextHasOneCode
text_has_one_code text a b of_a of_b = sym (read-is text a of_a) ∙ read-is text b of_b
