-- What is written of a period is read back.
use Rattle.std.proofs.Common.{◌≡◌, ℕ, ◌+◌, ◌<◌, ◌≤◌, ◌^◌, Bool, true, false, not, ◌&&◌, ◌||◌, cond, List, [], ◌∷◌, ◌++◌, length, Option, Some, None, refl, sym, ap, ◌∙◌, arith, append_assoc, ne_eqb}
use Rattle.std.specs.Prelude.{codes, filter, nat_eq, nat_lt, if◌then◌else◌}
use Rattle.std.specs.Cmp.Lexicographic.{pointwise}
use Rattle.std.specs.Fmt.{decimal}
use Rattle.std.specs.Int.{IsInRange}
use Rattle.std.specs.List.{All}
use Rattle.std.specs.Str.{all_ascii_digits}
use Rattle.std.proofs.lemmas.Bool.{lt-ltb}
use Rattle.std.proofs.lemmas.Fmt.{decimal_nonempty, digits_decimal, digits_value-decimal}
use Rattle.std.proofs.lemmas.List.Elements.{All-cons, All-from_recursion, All-nil}
use Rattle.std.proofs.lemmas.List.Splits.{slice_split_at, slice_split_none}
use Rattle.std.proofs.lemmas.Slice.Eq.{bytes_eq-Decides}
use Rattle.std.proofs.lemmas.Str.Parse.{tells_all_ascii_digits}
use Rattle.oct_bfile.proofs.Numerals.{own}
use Rattle.oct_bfile.specs.Bfile.{is_blank, is_filled, words}
use Rattle.oct_code.specs.Code.{Code}
use Rattle.oct_code.specs.CodeText.{code_text, digit_bytes, shown_digits}
use Rattle.oct_mex.specs.declared.period.SeenPeriod.{SeenPeriod}
use Rattle.oct_text.specs.Words.{Text, labelled}
use Rattle.oct_said.specs.Laws.{LinesAreRead, ReadTextsAreWritten, TextsAreRead}
use Rattle.oct_said.specs.Lines.{both, if_said, number_of, period_text, seen_by, seen_in}

-- ---- bytes that are no blanks

abbrev Unblanked : Text → Type 0
Unblanked = All (λ b. is_blank b ≡ false)

unblanked_byte : (b : ℕ) → 48 ≤ b → is_blank b ≡ false
unblanked_byte b low = λ i. ne_eqb b 32 (λ e. omega (arith, low, e)) i || ne_eqb b 9 (λ e. omega (arith, low, e)) i

unblanked_digits : (ds : Text) → all_ascii_digits ds ≡ true → Unblanked ds
unblanked_digits [] digits = All-nil (λ b. is_blank b ≡ false)
unblanked_digits (d ∷ ds) digits =
    let parts = tells_all_ascii_digits.parts d ds digits in
    let range : IsInRange 48 57 d = parts.0 in
    All-cons (λ b. is_blank b ≡ false) d ds (unblanked_byte d (omega (arith, range))) (unblanked_digits ds parts.1)

unblanked_octal : (ds : List ℕ) → Unblanked (digit_bytes ds)
unblanked_octal [] = All-nil (λ b. is_blank b ≡ false)
unblanked_octal (d ∷ ds) = All-cons (λ b. is_blank b ≡ false) (48 + d) (digit_bytes ds) (unblanked_byte (48 + d) (omega arith)) (unblanked_octal ds)

unblanked_code : (c : Code) → Unblanked (code_text c)
unblanked_code c =
    All-cons (λ b. is_blank b ≡ false) (48 + c.head) (46 ∷ digit_bytes (shown_digits c.digits)) (unblanked_byte (48 + c.head) (omega arith))
    (All-cons (λ b. is_blank b ≡ false) 46 (digit_bytes (shown_digits c.digits)) refl (unblanked_octal (shown_digits c.digits)))

unblanked_number : (n : ℕ) → n < 2 ^ 64 → Unblanked (decimal n)
unblanked_number n small = unblanked_digits (decimal n) (digits_decimal own n small)

-- ---- words

filled : (w : Text) → 0 < length w → is_filled w ≡ true
filled w some = ap not (ne_eqb (length w) 0 (λ none. omega (arith, some, none)))

-- a word, and those behind the blank
word_then : (w rest : Text) → Unblanked w → 0 < length w → words (w ++ 32 ∷ rest) ≡ w ∷ words rest
word_then w rest unblanked some =
    ap (filter is_filled) (slice_split_at is_blank w 32 rest unblanked refl)
    ∙ (λ i. cond (filled w some i) (w ∷ words rest) (words rest))

last_word : (w : Text) → Unblanked w → 0 < length w → words w ≡ w ∷ []
last_word w unblanked some = ap (filter is_filled) (slice_split_none is_blank w unblanked) ∙ (λ i. cond (filled w some i) (w ∷ []) [])

unblanked_period : Unblanked (codes "period")
unblanked_period = All-from_recursion (λ b. is_blank b ≡ false) (codes "period") (refl, (refl, (refl, (refl, (refl, (refl, tt))))))

unblanked_from : Unblanked (codes "from")
unblanked_from = All-from_recursion (λ b. is_blank b ≡ false) (codes "from") (refl, (refl, (refl, (refl, tt))))

-- the words of a line of a period, and those behind the last label
five : (c : Code) (period : ℕ) (rest : Text) → period < 2 ^ 64
    → words (code_text c ++ 32 ∷ (codes "period" ++ 32 ∷ (decimal period ++ 32 ∷ (codes "from" ++ 32 ∷ rest)))) ≡ code_text c ∷ codes "period" ∷ decimal period ∷ codes "from" ∷ words rest
five c period rest small =
    word_then (code_text c) (codes "period" ++ 32 ∷ (decimal period ++ 32 ∷ (codes "from" ++ 32 ∷ rest))) (unblanked_code c) (omega arith)
    ∙ ap (λ ws. code_text c ∷ ws) (word_then (codes "period") (decimal period ++ 32 ∷ (codes "from" ++ 32 ∷ rest)) unblanked_period (omega arith))
    ∙ ap (λ ws. code_text c ∷ codes "period" ∷ ws) (word_then (decimal period) (codes "from" ++ 32 ∷ rest) (unblanked_number period small) (decimal_nonempty period small))
    ∙ ap (λ ws. code_text c ∷ codes "period" ∷ decimal period ∷ ws) (word_then (codes "from") rest unblanked_from (omega arith))

-- ---- numbers

pub number_read : (n : ℕ) → n < 2 ^ 64 → number_of (decimal n) ≡ Some n
number_read n small =
    let value = digits_value-decimal own n small in
    (λ i. if filled (decimal n) (decimal_nonempty n small) i && (digits_decimal own n small i && nat_lt (value i) (2 ^ 64)) then Some (value i) else None)
    ∙ ap (λ t. if t then Some n else None) (lt-ltb n (2 ^ 64) small)

both_read : (c : Code) (seen : SeenPeriod) (rest : List Text) → seen.start < 2 ^ 64 → seen.period < 2 ^ 64
    → seen_by (code_text c ∷ codes "period" ∷ decimal seen.period ∷ codes "from" ∷ decimal seen.start ∷ rest) ≡ Some seen
both_read c seen rest start period = λ i. both (number_read seen.period period i) (number_read seen.start start i)

-- ---- lines

seen_read : (c : Code) (seen : SeenPeriod) → seen.start < 2 ^ 64 → seen.period < 2 ^ 64 → seen_in (period_text c seen) ≡ Some seen
seen_read c seen start period =
    ap seen_in (append_assoc (code_text c) (labelled (codes " period ") seen.period) (labelled (codes " from ") seen.start))
    ∙ ap seen_by (five c seen.period (decimal seen.start) period)
    ∙ ap (λ ws. seen_by (code_text c ∷ codes "period" ∷ decimal seen.period ∷ codes "from" ∷ ws)) (last_word (decimal seen.start) (unblanked_number seen.start start) (decimal_nonempty seen.start start))
    ∙ both_read c seen [] start period

pub lines_are_read : LinesAreRead
lines_are_read c seen rest valid start period =
    let from = labelled (codes " from ") seen.start in
    let label = labelled (codes " period ") seen.period in
    ap seen_in (append_assoc (code_text c ++ label) from (32 ∷ rest) ∙ append_assoc (code_text c) label (from ++ 32 ∷ rest))
    ∙ ap seen_by (five c seen.period (decimal seen.start ++ 32 ∷ rest) period)
    ∙ ap (λ ws. seen_by (code_text c ∷ codes "period" ∷ decimal seen.period ∷ codes "from" ∷ ws)) (word_then (decimal seen.start) rest (unblanked_number seen.start start) (decimal_nonempty seen.start start))
    ∙ both_read c seen (words rest) start period

-- ---- texts

pub texts_are_read : TextsAreRead
texts_are_read c seen valid start period =
    let text = period_text c seen in
    let same = bytes_eq-Decides text text in
    ap (if_said c text) (seen_read c seen start period) ∙ ap (λ t. if t then Some seen else None) (same.1 refl)

pub texts_are_written : ReadTextsAreWritten
texts_are_written c text seen read = by (seen_in text) read
  where
    kept : (found : SeenPeriod) (t : Bool) → pointwise nat_eq (period_text c found) text ≡ t → cond t (Some found) None ≡ Some seen → text ≡ period_text c seen
    kept found true same is =
        let equal = bytes_eq-Decides (period_text c found) text in
        sym (equal.0 same) ∙ ap (λ o. elim o [ Some s ↦ period_text c s | None ↦ [] ]) is
    kept found false other is = cc

    by : (found : Option SeenPeriod) → if_said c text found ≡ Some seen → text ≡ period_text c seen
    by None is = cc
    by (Some found) is = kept found (pointwise nat_eq (period_text c found) text) refl is
