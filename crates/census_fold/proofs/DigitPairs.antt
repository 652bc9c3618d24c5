-- Pairs of hexadecimal digits that are read one after another.
use Rattle.std.proofs.Common.{arith, ◌≡◌, ℕ, ◌+◌, ◌*◌, ◌/◌, ◌%◌, ◌<◌, ◌≤◌, List, [], ◌∷◌, ◌++◌, drop, length, slice_index, false, Option, Some, None, is_some, Result, Ok, Err, sym, ap, ◌∙◌}
use Rattle.std.specs.Result.{result_ok}
use Rattle.std.proofs.lemmas.List.{append-nil, drop_all}
use Rattle.hex.specs.Hex.{decode_pairs, digit_or_error, hex_digit_value, pair_value, ◌>>=◌}
use Rattle.hex.specs.declared.error.FromHexError.{FromHexError}
use Rattle.hex.specs.declared.error.FromHexError.TheVariants.{InvalidHexCharacter}
use Rattle.hex.proofs.Pairs.{cons_byte, decode_pairs-err_pair, decode_pairs-ok_pair, drop-pair, prepend, prepend-cons_byte}
use Rattle.std.proofs.lemmas.Bool.{true≢false}
use Rattle.std.specs.Option.{option_and_then}
use Rattle.oct_delta.specs.Decoding.{read_delta}
use Rattle.census_fold.specs.Folded.{operations_of_line, unhexed}

-- the bytes were read of the first n pairs of the text
abbrev pub HasRead : List ℕ → ℕ → List ℕ → Type 0
HasRead text n bytes = decode_pairs 0 text ≡ prepend bytes (decode_pairs (2 * n) (drop (2 * n) text))

prepend-nil : (r : Result (List ℕ) FromHexError) → r ≡ prepend [] r
prepend-nil (Ok rest) = λ i. Ok rest
prepend-nil (Err e) = λ i. Err e

pub none_read : (text bytes : List ℕ) → bytes ≡ [] → HasRead text 0 bytes
none_read text bytes none = prepend-nil (decode_pairs 0 text) ∙ ap (λ (b : List ℕ). prepend b (decode_pairs 0 text)) (sym none)

-- two digits spell a byte
pair_read : (a b at high low : ℕ) → Some high ≡ hex_digit_value a → Some low ≡ hex_digit_value b → pair_value a b at ≡ Ok (16 * high + low)
pair_read a b at high low is_high is_low =
    ap (λ (v : Option ℕ). digit_or_error a at v >>= λ h. digit_or_error b (at + 1) (hex_digit_value b) >>= λ l. Ok (h * 16 + l)) (sym is_high)
    ∙ ap (λ (v : Option ℕ). digit_or_error b (at + 1) v >>= λ l. Ok (high * 16 + l)) (sym is_low)
    ∙ ap Ok (let e : high * 16 + low ≡ 16 * high + low = omega arith in e)

pub one_more : (text : List ℕ) (n : ℕ) (bytes : List ℕ) (high low : ℕ) → 2 * n + 1 < length text
    → Some high ≡ hex_digit_value (slice_index text (2 * n)) → Some low ≡ hex_digit_value (slice_index text (2 * n + 1))
    → HasRead text n bytes → HasRead text (n + 1) (bytes ++ (16 * high + low) ∷ [])
one_more text n bytes high low fits is_high is_low before =
    let rest : List ℕ = drop (2 * (n + 1)) text in
    let two : 2 * n + 2 ≡ 2 * (n + 1) = omega arith in
    before
    ∙ ap (λ (t : List ℕ). prepend bytes (decode_pairs (2 * n) t)) (drop-pair text n fits)
    ∙ ap (prepend bytes) (decode_pairs-ok_pair (2 * n) (slice_index text (2 * n)) (slice_index text (2 * n + 1)) (16 * high + low) rest (pair_read (slice_index text (2 * n)) (slice_index text (2 * n + 1)) (2 * n) high low is_high is_low))
    ∙ ap (λ (k : ℕ). prepend bytes (cons_byte (16 * high + low) (decode_pairs k rest))) two
    ∙ prepend-cons_byte bytes (16 * high + low) (decode_pairs (2 * (n + 1)) rest)

-- the texts that are none

even_pairs : (text : List ℕ) → 2 * (length text / 2) ≡ length text → unhexed text ≡ result_ok (decode_pairs 0 text)
even_pairs text even = let e : length text % 2 ≡ 0 = omega (arith, even) in rw e (λ i. result_ok (decode_pairs 0 text))

pub all_read : (text : List ℕ) (n : ℕ) (bytes : List ℕ) → 2 * (length text / 2) ≡ length text → length text ≤ 2 * n → HasRead text n bytes → unhexed text ≡ Some bytes
unfolding decode_pairs
all_read text n bytes even end read =
    even_pairs text even
    ∙ ap result_ok (read ∙ ap (λ (t : List ℕ). prepend bytes (decode_pairs (2 * n) t)) (drop_all (2 * n) text end) ∙ ap Ok (append-nil bytes))

no_high : (a b at : ℕ) → None ≡ hex_digit_value a → pair_value a b at ≡ Err (InvalidHexCharacter a at)
no_high a b at none = ap (λ (v : Option ℕ). digit_or_error a at v >>= λ h. digit_or_error b (at + 1) (hex_digit_value b) >>= λ l. Ok (h * 16 + l)) (sym none)

no_low : (a b at high : ℕ) → Some high ≡ hex_digit_value a → None ≡ hex_digit_value b → pair_value a b at ≡ Err (InvalidHexCharacter b (at + 1))
no_low a b at high is_high none =
    ap (λ (v : Option ℕ). digit_or_error a at v >>= λ h. digit_or_error b (at + 1) (hex_digit_value b) >>= λ l. Ok (h * 16 + l)) (sym is_high)
    ∙ ap (λ (v : Option ℕ). digit_or_error b (at + 1) v >>= λ l. Ok (high * 16 + l)) (sym none)

pair_is_none : (text : List ℕ) (n : ℕ) (bytes : List ℕ) (e : FromHexError) → 2 * (length text / 2) ≡ length text → 2 * n + 1 < length text
    → pair_value (slice_index text (2 * n)) (slice_index text (2 * n + 1)) (2 * n) ≡ Err e → HasRead text n bytes → unhexed text ≡ None
pair_is_none text n bytes e even fits bad read =
    even_pairs text even
    ∙ ap result_ok (read ∙ ap (λ (t : List ℕ). prepend bytes (decode_pairs (2 * n) t)) (drop-pair text n fits) ∙ ap (prepend bytes) (decode_pairs-err_pair (2 * n) (slice_index text (2 * n)) (slice_index text (2 * n + 1)) e _ bad))

pub high_is_none : (text : List ℕ) (n : ℕ) (bytes : List ℕ) → 2 * (length text / 2) ≡ length text → 2 * n + 1 < length text
    → None ≡ hex_digit_value (slice_index text (2 * n)) → HasRead text n bytes → unhexed text ≡ None
high_is_none text n bytes even fits none read = pair_is_none text n bytes _ even fits (no_high (slice_index text (2 * n)) (slice_index text (2 * n + 1)) (2 * n) none) read

pub low_is_none : (text : List ℕ) (n : ℕ) (bytes : List ℕ) (high : ℕ) → 2 * (length text / 2) ≡ length text → 2 * n + 1 < length text
    → Some high ≡ hex_digit_value (slice_index text (2 * n)) → None ≡ hex_digit_value (slice_index text (2 * n + 1)) → HasRead text n bytes → unhexed text ≡ None
low_is_none text n bytes high even fits is_high none read = pair_is_none text n bytes _ even fits (no_low (slice_index text (2 * n)) (slice_index text (2 * n + 1)) (2 * n) high is_high none) read

none_unless : (bytes : Option (List ℕ)) → is_some bytes ≡ false → bytes ≡ None
none_unless None e = λ i. None
none_unless (Some b) e = absurd (true≢false e)

-- a line that spells no byte string is no text of a delta
pub not_spelled : (line : List ℕ) → false ≡ is_some (unhexed line) → operations_of_line line ≡ None
not_spelled line none = ap (option_and_then read_delta) (none_unless (unhexed line) (sym none))
