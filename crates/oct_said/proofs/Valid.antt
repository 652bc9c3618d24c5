-- The note of a period has no fault.
use Rattle.std.proofs.Common.{◌≡◌, ◌⊎◌, inl, inr, ℕ, ◌+◌, ◌<◌, ◌≤◌, ◌^◌, ◌==◌, true, not, ◌&&◌, ◌||◌, List, [], ◌∷◌, ◌++◌, length, None, Some, refl, ◌∙◌, arith, length-append}
use Rattle.std.specs.Prelude.{codes, nat_le, if◌then◌else◌}
use Rattle.std.specs.Fmt.{decimal}
use Rattle.std.specs.Int.{IsInRange}
use Rattle.std.specs.List.{All}
use Rattle.std.specs.Str.{all_ascii_digits}
use Rattle.std.proofs.lemmas.Bool.{le-leb, lt-leb, and_from}
use Rattle.std.proofs.lemmas.Fmt.{digits_decimal, length-decimal-le}
use Rattle.std.proofs.lemmas.List.{length-map}
use Rattle.std.proofs.lemmas.List.Elements.{All-cons, All-head, All-nil, All-tail}
use Rattle.std.proofs.lemmas.List.Folds.{list_all-append}
use Rattle.std.proofs.lemmas.Str.Parse.{tells_all_ascii_digits}
use Rattle.oct_bfile.proofs.Numerals.{own}
use Rattle.oct_code.specs.Code.{Code, IsCode}
use Rattle.oct_code.specs.CodeText.{code_text, digit_bytes, shown_digits}
use Rattle.oct_code.specs.declared.limits.TheConstants.{MAX_DIGITS}
use Rattle.oct_mex.specs.declared.period.SeenPeriod.{SeenPeriod}
use Rattle.oct_ops.specs.Faults.{are_name_bytes, are_text_bytes, is_name, is_name_byte, is_text, is_text_byte, note_fault}
use Rattle.oct_ops.specs.Operation.{noted}
use Rattle.oct_ops.specs.declared.error.NoteError.TheVariants as note
use Rattle.oct_text.specs.Words.{Text, labelled}
use Rattle.oct_said.specs.Lines.{period_text}
use Rattle.oct_said.specs.Names.{note_name}

-- ---- bytes

name_byte : (b : ℕ) → 48 ≤ b → b ≤ 57 → is_name_byte b ≡ true
name_byte b low high = λ i. (lt-leb 97 b (omega (arith, high)) i && nat_le b 122) || ((le-leb 48 b low i && le-leb b 57 high i) || (b == 45))

text_byte : (b : ℕ) → 32 ≤ b → b ≤ 126 → is_text_byte b ≡ true
text_byte b low high = λ i. le-leb 32 b low i && le-leb b 126 high i

-- ---- digits of a code

pub shown_octal : (ds : List ℕ) → All (λ d. d ≤ 7) ds → All (λ d. d ≤ 7) (shown_digits ds)
shown_octal [] octal = All-cons (λ d. d ≤ 7) 0 [] (omega arith) (All-nil (λ d. d ≤ 7))
shown_octal (d ∷ ds) octal = octal

pub shown_few : (ds : List ℕ) → length ds ≤ MAX_DIGITS → length (shown_digits ds) ≤ 16
shown_few [] few = omega arith
shown_few (d ∷ ds) few = omega (arith, few)

names : (ds : List ℕ) → All (λ d. d ≤ 7) ds → are_name_bytes (digit_bytes ds) ≡ true
names [] octal = refl
names (d ∷ ds) octal = λ i. name_byte (48 + d) (omega arith) (omega (arith, All-head (λ d. d ≤ 7) d ds octal)) i && names ds (All-tail (λ d. d ≤ 7) d ds octal) i

texts : (ds : List ℕ) → All (λ d. d ≤ 7) ds → are_text_bytes (digit_bytes ds) ≡ true
texts [] octal = refl
texts (d ∷ ds) octal = λ i. text_byte (48 + d) (omega arith) (omega (arith, All-head (λ d. d ≤ 7) d ds octal)) i && texts ds (All-tail (λ d. d ≤ 7) d ds octal) i

pub head_small : (h : ℕ) → (h ≡ 0) ⊎ (h ≡ 4) → h ≤ 4
head_small h (inl z) = omega (arith, z)
head_small h (inr z) = omega (arith, z)

-- ---- the name

name_bytes : (c : Code) → IsCode c → are_name_bytes (note_name c) ≡ true
name_bytes c valid =
    let small = head_small c.head valid.head in
    λ i. name_byte (48 + c.head) (omega arith) (omega (arith, small)) i && names (shown_digits c.digits) (shown_octal c.digits valid.octal) i

name_length : (c : Code) → length (note_name c) ≡ 9 + length (shown_digits c.digits)
name_length c = let bytes = length-map (shown_digits c.digits) (λ d. 48 + d) in omega (arith, bytes)

pub name_is : (c : Code) → IsCode c → is_name (note_name c) ≡ true
name_is c valid =
    let len = name_length c in
    let few = shown_few c.digits valid.len in
    λ i. le-leb 1 (length (note_name c)) (omega (arith, len)) i && le-leb (length (note_name c)) 32 (omega (arith, len, few)) i && name_bytes c valid i

-- ---- the text

digits_are_text : (ds : Text) → all_ascii_digits ds ≡ true → are_text_bytes ds ≡ true
digits_are_text [] digits = refl
digits_are_text (d ∷ ds) digits =
    let both = tells_all_ascii_digits.parts d ds digits in
    let range : IsInRange 48 57 d = both.0 in
    λ i. text_byte d (omega (arith, range)) (omega (arith, range)) i && digits_are_text ds both.1 i

append_text : (xs ys : Text) → are_text_bytes xs ≡ true → are_text_bytes ys ≡ true → are_text_bytes (xs ++ ys) ≡ true
append_text xs ys first second = list_all-append is_text_byte xs ys ∙ and_from _ _ first second

code_bytes : (c : Code) → IsCode c → are_text_bytes (code_text c) ≡ true
code_bytes c valid =
    let small = head_small c.head valid.head in
    λ i. text_byte (48 + c.head) (omega arith) (omega (arith, small)) i && texts (shown_digits c.digits) (shown_octal c.digits valid.octal) i

number_bytes : (n : ℕ) → n < 2 ^ 64 → are_text_bytes (decimal n) ≡ true
number_bytes n small = digits_are_text (decimal n) (digits_decimal own n small)

text_bytes : (c : Code) (seen : SeenPeriod) → IsCode c → seen.start < 2 ^ 64 → seen.period < 2 ^ 64 → are_text_bytes (period_text c seen) ≡ true
text_bytes c seen valid start period =
    append_text (code_text c ++ labelled (codes " period ") seen.period) (labelled (codes " from ") seen.start)
    (append_text (code_text c) (labelled (codes " period ") seen.period) (code_bytes c valid) (number_bytes seen.period period))
    (number_bytes seen.start start)

code_length : (c : Code) → length (code_text c) ≡ 2 + length (shown_digits c.digits)
code_length c = let bytes = length-map (shown_digits c.digits) (λ d. 48 + d) in omega (arith, bytes)

text_length : (c : Code) (seen : SeenPeriod) → IsCode c → seen.start < 2 ^ 64 → seen.period < 2 ^ 64 → length (period_text c seen) ≤ 200
text_length c seen valid start period =
    let outer = length-append (code_text c ++ labelled (codes " period ") seen.period) (labelled (codes " from ") seen.start) in
    let inner = length-append (code_text c) (labelled (codes " period ") seen.period) in
    omega (arith, outer, inner, code_length c, shown_few c.digits valid.len, length-decimal-le 20 seen.period (omega arith) (omega (arith, period)) period, length-decimal-le 20 seen.start (omega arith) (omega (arith, start)) start)

text_is : (c : Code) (seen : SeenPeriod) → IsCode c → seen.start < 2 ^ 64 → seen.period < 2 ^ 64 → is_text (period_text c seen) ≡ true
text_is c seen valid start period = λ i. le-leb (length (period_text c seen)) 200 (text_length c seen valid start period) i && text_bytes c seen valid start period i

pub faultless : (c : Code) (seen : SeenPeriod) → IsCode c → seen.start < 2 ^ 64 → seen.period < 2 ^ 64 → note_fault (noted (note_name c) (period_text c seen)) ≡ None
faultless c seen valid start period =
    λ i. if not (name_is c valid i) then Some note.Name else (if not (text_is c seen valid start period i) then Some note.Text else None)
