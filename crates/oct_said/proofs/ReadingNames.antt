-- The name of a game's notes is read as that game's.
use Rattle.std.proofs.Common.{◌≡◌, ◌⊎◌, inl, inr, ℕ, ◌+◌, ◌≤◌, ◌==◌, Bool, true, false, not, ◌&&◌, cond, List, [], ◌∷◌, length, Option, Some, None, refl, sym, ap, ◌∙◌, arith}
use Rattle.std.specs.Prelude.{nat_eq, nat_le, nat_lt, if◌then◌else◌}
use Rattle.std.specs.List.{All}
use Rattle.std.specs.Cmp.Lexicographic.{pointwise}
use Rattle.std.proofs.lemmas.Bool.{le-leb, le-ltb, lt-leb}
use Rattle.std.proofs.lemmas.List.{length-map}
use Rattle.std.proofs.lemmas.List.Elements.{All-head, All-tail}
use Rattle.std.proofs.lemmas.Slice.Eq.{bytes_eq-Decides}
use Rattle.oct_code.specs.Code.{Code, IsCode}
use Rattle.oct_code.specs.CodeText.{code_text, digit_bytes, shown_digits}
use Rattle.oct_code.specs.TextFaults.{are_digit_bytes, is_digit_byte, is_empty, is_head_byte, parts_fault, text_fault, trimmed}
use Rattle.oct_code.specs.declared.error.CodeError.TheVariants.{Form, Head, Digit, Long}
use Rattle.oct_code.specs.declared.limits.TheConstants.{MAX_DIGITS}
use Rattle.oct_code.proofs.CodeLaws.{read-is, written_is_read}
use Rattle.oct_text.specs.Words.{Text}
use Rattle.oct_said.specs.Laws.{NamesAreRead, ReadNamesAreWritten}
use Rattle.oct_said.proofs.Valid.{shown_few, shown_octal}
use Rattle.oct_said.specs.Names.{code_spelled, faultless, if_named, note_name}

-- ---- the text of a code has no fault

digit_byte : (d : ℕ) → d ≤ 7 → is_digit_byte (48 + d) ≡ true
digit_byte d small = λ i. le-leb 48 (48 + d) (omega arith) i && le-leb (48 + d) 55 (omega (arith, small)) i

octal_bytes : (ds : List ℕ) → All (λ d. d ≤ 7) ds → are_digit_bytes (digit_bytes ds) ≡ true
octal_bytes [] octal = refl
octal_bytes (d ∷ ds) octal = λ i. digit_byte d (All-head (λ d. d ≤ 7) d ds octal) i && octal_bytes ds (All-tail (λ d. d ≤ 7) d ds octal) i

some_byte : (ds : List ℕ) → is_empty (digit_bytes (shown_digits ds)) ≡ false
some_byte [] = refl
some_byte (d ∷ ds) = refl

trimmed-few : (bs : Text) → length (trimmed bs) ≤ length bs
trimmed-few [] = omega arith
trimmed-few (b ∷ bs) = by ((b == 48) && is_empty (trimmed bs)) (trimmed-few bs)
  where
    by : (t : Bool) → length (trimmed bs) ≤ length bs → length (cond t [] (b ∷ trimmed bs)) ≤ length (b ∷ bs)
    by true few = omega arith
    by false few = omega (arith, few)

faultless_parts : (head : ℕ) (bs : Text) → is_head_byte head ≡ true → is_empty bs ≡ false → are_digit_bytes bs ≡ true → length bs ≤ 16 → parts_fault head bs ≡ None
faultless_parts head bs first some digits few =
    let fits : length (trimmed bs) ≤ 16 = omega (arith, trimmed-few bs, few) in
    let short : nat_lt MAX_DIGITS (length (trimmed bs)) ≡ false = le-ltb 16 (length (trimmed bs)) fits in
    λ i. if some i then Some Form else (if not (first i) then Some Head else (if not (digits i) then Some Digit else (if short i then Some Long else None)))

text_faultless : (head : ℕ) (bs : Text) → (head ≡ 0) ⊎ (head ≡ 4) → is_empty bs ≡ false → are_digit_bytes bs ≡ true → length bs ≤ 16 → text_fault ((48 + head) ∷ 46 ∷ bs) ≡ None
text_faultless head bs (inl z) some digits few = ap (λ h. text_fault ((48 + h) ∷ 46 ∷ bs)) z ∙ faultless_parts 48 bs refl some digits few
text_faultless head bs (inr z) some digits few = ap (λ h. text_fault ((48 + h) ∷ 46 ∷ bs)) z ∙ faultless_parts 52 bs refl some digits few

no_fault : (c : Code) → IsCode c → text_fault (code_text c) ≡ None
no_fault c valid =
    let bytes = length-map (shown_digits c.digits) (λ d. 48 + d) in
    text_faultless c.head (digit_bytes (shown_digits c.digits)) valid.head (some_byte c.digits) (octal_bytes (shown_digits c.digits) (shown_octal c.digits valid.octal))
    (omega (arith, bytes, shown_few c.digits valid.len))

-- ---- the name

spelled : (c : Code) → IsCode c → code_spelled (note_name c) ≡ Some c
spelled c valid =
    let long : nat_le (length (note_name c)) 8 ≡ false = lt-leb (length (note_name c)) 8 (omega arith) in
    let text = written_is_read c valid in
    ap (λ t. if t then None else faultless (code_text c) (text_fault (code_text c))) long
    ∙ ap (faultless (code_text c)) (no_fault c valid)
    ∙ ap Some (read-is (code_text c) c text)

pub names_are_read : NamesAreRead
names_are_read c valid =
    let name = note_name c in
    let same = bytes_eq-Decides name name in
    ap (if_named name) (spelled c valid) ∙ ap (λ t. if t then Some c else None) (same.1 refl)

pub names_are_written : ReadNamesAreWritten
names_are_written name c read = by (code_spelled name) read
  where
    kept : (found : Code) (t : Bool) → pointwise nat_eq (note_name found) name ≡ t → cond t (Some found) None ≡ Some c → name ≡ note_name c
    kept found true same is =
        let equal = bytes_eq-Decides (note_name found) name in
        sym (equal.0 same) ∙ ap (λ o. elim o [ Some k ↦ note_name k | None ↦ [] ]) is
    kept found false other is = cc

    by : (found : Option Code) → if_named name found ≡ Some c → name ≡ note_name c
    by None is = cc
    by (Some found) is = kept found (pointwise nat_eq (note_name found) name) refl is
