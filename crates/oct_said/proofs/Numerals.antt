-- Numbers below 2^64 as words.
use Rattle.std.proofs.Common.{◌≡◌, ℕ, zero, suc, ◌^◌, ◌<◌, ◌==◌, Bool, true, false, not, ◌&&◌, length, Some, None, Result, Ok, Err, sym, ap, ◌∙◌, arith, eqb-true, refl}
use Rattle.std.specs.Prelude.{nat_lt, if◌then◌else◌}
use Rattle.std.specs.Result.{OkIff, result_ok}
use Rattle.std.specs.Str.{all_ascii_digits}
use Rattle.std.specs.Str.Parse.{digits_value}
use Rattle.std.proofs.lemmas.Bool.{ltb-false, ltb-true}
use Rattle.oct_text.specs.Words.{Text}
use Rattle.oct_bfile.specs.Bfile.{is_filled}
use Rattle.oct_said.specs.Lines.{number_of}

and_false : (a b : Bool) → (a && (false && b)) ≡ false
and_false true b = refl
and_false false b = refl

-- what has another byte is no number
pub no_number : (word : Text) → all_ascii_digits word ≡ false → None ≡ number_of word
no_number word other =
    sym ((λ i. if is_filled word && (other i && nat_lt (digits_value 10 word) (2 ^ 64)) then Some (digits_value 10 word) else None)
    ∙ ap (λ t. if t then Some (digits_value 10 word) else None) (and_false (is_filled word) (nat_lt (digits_value 10 word) (2 ^ 64))))

positive : (n : ℕ) → (n == 0) ≡ false → 0 < n
positive zero some = let never : true ≡ false = some in cc
positive (suc n) some = omega arith

-- what std reads of digits is the number
pub parsed_number : {E : Type 0} (word : Text) (r : Result ℕ E) → all_ascii_digits word ≡ true → OkIff r ((0 < length word) × (digits_value 10 word < 2 ^ 64)) (digits_value 10 word) → result_ok r ≡ number_of word
parsed_number word r digits read = by r (length word == 0) (nat_lt (digits_value 10 word) (2 ^ 64)) refl refl read
  where
    none_by : (s t : Bool) → (length word == 0) ≡ s → nat_lt (digits_value 10 word) (2 ^ 64) ≡ t → (not s && t) ≡ false → number_of word ≡ None
    none_by s t empty small not_both = (λ i. if not (empty i) && (digits i && small i) then Some (digits_value 10 word) else None) ∙ ap (λ b. if b then Some (digits_value 10 word) else None) not_both

    by : {E : Type 0} (r : Result ℕ E) (s t : Bool) → (length word == 0) ≡ s → nat_lt (digits_value 10 word) (2 ^ 64) ≡ t → OkIff r ((0 < length word) × (digits_value 10 word < 2 ^ 64)) (digits_value 10 word)
        → result_ok r ≡ number_of word
    by (Ok x) true t empty small read = let none : length word ≡ 0 = eqb-true (length word) 0 empty in absurd (omega (arith, read.0.0))
    by (Ok x) false true empty small read = ap Some read.1 ∙ sym (λ i. if not (empty i) && (digits i && small i) then Some (digits_value 10 word) else None)
    by (Ok x) false false empty small read = absurd (omega (arith, read.0.1, ltb-false (digits_value 10 word) (2 ^ 64) small))
    by (Err e) true t empty small read = sym (none_by true t empty small refl)
    by (Err e) false true empty small read = absurd (read (positive (length word) empty, ltb-true (digits_value 10 word) (2 ^ 64) small))
    by (Err e) false false empty small read = sym (none_by false false empty small refl)
