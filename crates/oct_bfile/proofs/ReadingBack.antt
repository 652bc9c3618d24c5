-- What is written of values reads back as these values.
use Rattle.std.proofs.Common.{◌≡◌, ℕ, ◌+◌, ◌<◌, ◌≤◌, ◌^◌, ◌==◌, true, false, not, ◌&&◌, ◌||◌, cond, List, [], ◌∷◌, ◌++◌, map, length, Option, Some, None, refl, ap, ◌∙◌, arith, append_assoc, ne_eqb, eq-eqb}
use Rattle.std.specs.Prelude.{codes, filter, nat_le, nat_lt, if◌then◌else◌}
use Rattle.std.specs.Fmt.{decimal}
use Rattle.std.specs.Int.{IsInRange}
use Rattle.std.specs.List.{All, AllByRecursion, onto_first}
use Rattle.std.specs.Str.{all_ascii_digits}
use Rattle.std.proofs.lemmas.Bool.{lt-leb, lt-ltb}
use Rattle.std.proofs.lemmas.Fmt.{decimal_nonempty, digits_decimal, digits_value-decimal}
use Rattle.std.proofs.lemmas.List.Elements.{All-cons, All-nil}
use Rattle.std.proofs.lemmas.List.Splits.{slice_split_at, slice_split_none}
use Rattle.std.proofs.lemmas.Str.Parse.{tells_all_ascii_digits}
use Rattle.oct_code.specs.declared.limits.TheConstants.{LIMIT}
use Rattle.oct_text.specs.Words.{Text}
use Rattle.oct_bfile.specs.Bfile.{begins_comment, begins_with_feed, checked_by, file_by, first_fault, follows, is_blank, is_filled, line_by, line_of, lines, number_of, row_of, row_text, rows_text, values_of, words}
use Rattle.oct_bfile.specs.BfileLaws.{WrittenReadsBack}
use Rattle.oct_bfile.specs.declared.bfile_error.BfileError.TheVariants.{Order, PastLimit}
use Rattle.oct_bfile.specs.declared.bfile_line.BfileLine.{BfileLine}
use Rattle.oct_bfile.specs.declared.bfile_line.BfileLine.TheVariants.{Row, Skipped}
use Rattle.oct_bfile.proofs.Numerals.{own}

-- ---- bytes of digits

-- the byte ends no line, is no blank, and begins no comment
record IsInner (b : ℕ) : Type 0 where
  feed : (b == 10) ≡ false
  return : (b == 13) ≡ false
  blank : is_blank b ≡ false
  comment : (b == 35) ≡ false

inner_digit : (b : ℕ) → IsInRange 48 57 b → IsInner b
inner_digit b range = record {
  feed = ne_eqb b 10 (λ e. omega (arith, range, e));
  return = ne_eqb b 13 (λ e. omega (arith, range, e));
  blank = (λ i. ne_eqb b 32 (λ e. omega (arith, range, e)) i || ne_eqb b 9 (λ e. omega (arith, range, e)) i);
  comment = ne_eqb b 35 (λ e. omega (arith, range, e));
}

each_inner : (ds : Text) → all_ascii_digits ds ≡ true → AllByRecursion IsInner ds
each_inner [] digits = tt
each_inner (d ∷ ds) digits = let both = tells_all_ascii_digits.parts d ds digits in (inner_digit d both.0, each_inner ds both.1)

-- ---- a line

-- no byte ends a line
abbrev Unended : Text → Type 0
Unended = AllByRecursion (λ b. ((b == 10) ≡ false) × ((b == 13) ≡ false))

unended_digits : (ds : Text) → AllByRecursion IsInner ds → Unended ds
unended_digits [] inner = tt
unended_digits (d ∷ ds) inner = ((inner.0.feed, inner.0.return), unended_digits ds inner.1)

unended-append : (xs ys : Text) → Unended xs → Unended ys → Unended (xs ++ ys)
unended-append [] ys h k = k
unended-append (x ∷ xs) ys h k = (h.0, unended-append xs ys h.1 k)

lines-feed_at : (xs rest : Text) → Unended xs → lines (xs ++ 10 ∷ rest) ≡ xs ∷ lines rest
lines-feed_at [] rest unended = refl
lines-feed_at (x ∷ xs) rest unended =
    (λ i. if unended.0.1 i && begins_with_feed (xs ++ 10 ∷ rest) then lines (xs ++ 10 ∷ rest) else (if unended.0.0 i || unended.0.1 i then [] ∷ lines (xs ++ 10 ∷ rest) else onto_first x (lines (xs ++ 10 ∷ rest))))
    ∙ ap (onto_first x) (lines-feed_at xs rest unended.1)

-- ---- its words

unblanked : (ds : Text) → AllByRecursion IsInner ds → All (λ b. is_blank b ≡ false) ds
unblanked [] inner = All-nil (λ b. is_blank b ≡ false)
unblanked (d ∷ ds) inner = All-cons (λ b. is_blank b ≡ false) d ds inner.0.blank (unblanked ds inner.1)

filled : (ds : Text) → 0 < length ds → is_filled ds ≡ true
filled ds some = ap not (ne_eqb (length ds) 0 (λ none. omega (arith, some, none)))

two_words : (ds es : Text) → AllByRecursion IsInner ds → AllByRecursion IsInner es → 0 < length ds → 0 < length es → words (ds ++ 32 ∷ es) ≡ ds ∷ es ∷ []
two_words ds es first second some more =
    ap (filter is_filled) (slice_split_at is_blank ds 32 es (unblanked ds first) refl ∙ ap (λ l. ds ∷ l) (slice_split_none is_blank es (unblanked es second)))
    ∙ (λ i. cond (filled ds some i) (ds ∷ cond (filled es more i) (es ∷ []) []) (cond (filled es more i) (es ∷ []) []))

no_comment : (ds : Text) → AllByRecursion IsInner ds → 0 < length ds → begins_comment ds ≡ false
no_comment [] inner some = absurd (omega arith)
no_comment (d ∷ ds) inner some = inner.0.comment

number_read : (n : ℕ) → n < 2 ^ 32 → number_of (decimal n) ≡ Some n
number_read n small =
    let value = digits_value-decimal own n (omega arith) in
    (λ i. if filled (decimal n) (decimal_nonempty n (omega arith)) i && (digits_decimal own n (omega arith) i && nat_lt (value i) (2 ^ 32)) then Some (value i) else None)
    ∙ ap (λ t. if t then Some n else None) (lt-ltb n (2 ^ 32) small)

-- the line of a row
abbrev row_line : ℕ → ℕ → Text
row_line n v = decimal n ++ 32 ∷ decimal v

row_read : (n v : ℕ) → n < 2 ^ 32 → v < 2 ^ 32 → line_of (row_line n v) ≡ Row n v
row_read n v small_n small_v =
    let first = each_inner (decimal n) (digits_decimal own n (omega arith)) in
    let second = each_inner (decimal v) (digits_decimal own v (omega arith)) in
    let some = decimal_nonempty n (omega arith) in
    ap line_by (two_words (decimal n) (decimal v) first second some (decimal_nonempty v (omega arith)))
    ∙ (λ i. if no_comment (decimal n) first some i then Skipped else row_of (number_read n small_n i) (number_read v small_v i))

unended_row : (n v : ℕ) → n < 2 ^ 32 → v < 2 ^ 32 → Unended (row_line n v)
unended_row n v small_n small_v =
    unended-append (decimal n) (32 ∷ decimal v) (unended_digits (decimal n) (each_inner (decimal n) (digits_decimal own n (omega arith))))
    ((refl, refl), unended_digits (decimal v) (each_inner (decimal v) (digits_decimal own v (omega arith))))

row_text-line : (n v : ℕ) (rest : Text) → row_text n v ++ rest ≡ row_line n v ++ 10 ∷ rest
row_text-line n v rest =
    append_assoc (decimal n ++ codes " " ++ decimal v) (codes "\n") rest
    ∙ ap (λ t. t ++ 10 ∷ rest) (append_assoc (decimal n) (codes " ") (decimal v))

-- ---- the rows

abbrev rows : ℕ → List ℕ → List BfileLine
rows n [] = []
rows n (v ∷ vs) = Row n v ∷ rows (n + 1) vs

rows_read : (n : ℕ) (vs : List ℕ) → n + length vs ≤ LIMIT → AllByRecursion (λ v. v < 2 ^ 32) vs → map line_of (lines (rows_text n vs)) ≡ rows n vs
rows_read n [] few small = refl
rows_read n (v ∷ vs) few small =
    ap (λ t. map line_of (lines t)) (row_text-line n v (rows_text (n + 1) vs))
    ∙ ap (map line_of) (lines-feed_at (row_line n v) (rows_text (n + 1) vs) (unended_row n v (omega arith) small.0))
    ∙ (λ i. row_read n v (omega arith) small.0 i ∷ rows_read (n + 1) vs (omega arith) small.1 i)

faultless : (place : ℕ) (due : Option ℕ) (n : ℕ) (vs : List ℕ) → follows due n ≡ true → n + length vs ≤ LIMIT → first_fault place due (rows n vs) ≡ None
faultless place due n [] due_now few = refl
faultless place due n (v ∷ vs) due_now few =
    let below : nat_le LIMIT n ≡ false = lt-leb LIMIT n (omega arith) in
    ap (λ f. elim f [ Some fault ↦ Some fault | None ↦ first_fault (place + 1) (Some (n + 1)) (rows (n + 1) vs) ])
    (λ i. if not (due_now i) then Some (Order place) else (if below i then Some (PastLimit place) else None))
    ∙ faultless (place + 1) (Some (n + 1)) (n + 1) vs (eq-eqb (n + 1) (n + 1) refl) (omega arith)

values_listed : (n : ℕ) (vs : List ℕ) → values_of (rows n vs) ≡ vs
values_listed n [] = refl
values_listed n (v ∷ vs) = ap (λ l. v ∷ l) (values_listed (n + 1) vs)

pub written_reads_back : WrittenReadsBack
written_reads_back [] some few small = absurd (some refl)
written_reads_back (v ∷ vs) some few small =
    let all : List BfileLine = rows 0 (v ∷ vs) in
    ap (λ l. checked_by (first_fault 1 None l) l) (rows_read 0 (v ∷ vs) (omega arith) small)
    ∙ ap (λ f. checked_by f all) (faultless 1 None 0 (v ∷ vs) refl (omega arith))
    ∙ ap (file_by (Some 0)) (values_listed 0 (v ∷ vs))
