-- One more digit of a code's text.
use Rattle.std.proofs.Common.{arith, ◌≡◌, ℕ, zero, suc, ◌+◌, ◌<◌, ◌≤◌, List, [], ◌∷◌, ◌++◌, length, take, drop, set, get_or, replicate, refl, sym, ap, ◌∙◌, add-one}
use Rattle.oct_code.specs.CodeText.{digit_bytes}
use Rattle.oct_code.specs.declared.limits.TheConstants.{MAX_DIGITS}

filled : (i : ℕ) (items zeros : List ℕ) → i < length items → i < length zeros → set (take i items ++ drop i zeros) i (get_or items i 0) ≡ take (suc i) items ++ drop (suc i) zeros
filled i [] zeros lt room = absurd (omega (arith, lt))
filled i (d ∷ items) [] lt room = absurd (omega (arith, room))
filled zero (d ∷ items) (z ∷ zeros) lt room = refl
filled (suc i) (d ∷ items) (z ∷ zeros) lt room = ap (λ l. d ∷ l) (filled i items zeros (omega (arith, lt)) (omega (arith, room)))

byte_at : (digits : List ℕ) (i : ℕ) → i < length digits → get_or (digit_bytes digits) i 0 ≡ 48 + get_or digits i 0
byte_at [] i lt = absurd (omega (arith, lt))
byte_at (d ∷ digits) zero lt = refl
byte_at (d ∷ digits) (suc i) lt = byte_at digits i (omega (arith, lt))

pub length-bytes : (digits : List ℕ) → length (digit_bytes digits) ≡ length digits
length-bytes [] = refl
length-bytes (d ∷ digits) = ap suc (length-bytes digits)

pub written : (a b i : ℕ) (text digits : List ℕ) → i < length digits → length digits ≤ MAX_DIGITS → text ≡ a ∷ b ∷ take i (digit_bytes digits) ++ drop i (replicate MAX_DIGITS 48) → set text (i + 2) (48 + get_or digits i 0) ≡ a ∷ b ∷ take (i + 1) (digit_bytes digits) ++ drop (i + 1) (replicate MAX_DIGITS 48)
written a b i text digits lt room is =
    let place : i + 2 ≡ suc (suc i) = omega arith in
    let step = filled i (digit_bytes digits) (replicate MAX_DIGITS 48) (omega (arith, lt, length-bytes digits)) (omega (arith, lt, room)) in
    (λ j. set (is j) (place j) (sym (byte_at digits i lt) j)) ∙ ap (λ l. a ∷ b ∷ l) (step ∙ sym (λ j. take (add-one i j) (digit_bytes digits) ++ drop (add-one i j) (replicate MAX_DIGITS 48)))
