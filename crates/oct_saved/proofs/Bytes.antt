-- Numbers as bytes, 8 each.
use Rattle.std.proofs.Common.{◌≡◌, ◌⊎◌, inl, inr, true, false, leb, ℕ, suc, ◌+◌, ◌*◌, ◌<◌, ◌≤◌, ◌^◌, List, [], ◌∷◌, ◌++◌, length, get_or, take, drop, refl, sym, ◌∙◌, ap, ap₂, subst, arith}
use Rattle.std.proofs.lemmas.List.{append-nil, append_assoc, append_cancel_left, get_or_past, get_or-append-add, get_or-take, length-append, length-take, take-append-drop}
use Rattle.std.proofs.lemmas.Bool.Decides.{leb_tells}
use Rattle.std.proofs.lemmas.Grind.{flat_map-append}
use Rattle.std.proofs.lemmas.Nat.{be_bytes_8}
use Rattle.std.specs.Int.{w64, from_be_bytes}
use Rattle.byteorder.specs.Endian.{big_number}
use Rattle.byteorder.specs.Numbers.{big_number-reads_back}
use Rattle.oct_saved.specs.Saved.{AreWords, number_bytes, word_bytes}

pub big_u64 : (bytes : List ℕ) → big_number 8 bytes ≡ from_be_bytes w64 bytes
big_u64 bytes = omega arith

-- 8 bytes are those of their number
pub bytes_again : (bytes : List ℕ) → length bytes ≡ 8 → ((i : ℕ) → get_or bytes i 0 < 256) → word_bytes (big_number 8 bytes) ≡ bytes
unfolding word_bytes
bytes_again bytes len fits = be_bytes_8 bytes (big_number 8 bytes) len fits (big_u64 bytes)

pub word_bytes-length : (x : ℕ) → length (word_bytes x) ≡ 8
unfolding word_bytes
word_bytes-length x = refl

word_again : (x : ℕ) (rest : List ℕ) → x < 2 ^ 64 → big_number 8 (word_bytes x ++ rest) ≡ x
unfolding word_bytes
word_again x rest lt = big_number-reads_back 8 x rest lt

pub number_bytes-length : (xs : List ℕ) → length (number_bytes xs) ≡ 8 * length xs
number_bytes-length [] = refl
number_bytes-length (x ∷ xs) = omega (arith, length-append (word_bytes x) (number_bytes xs), word_bytes-length x, number_bytes-length xs)

first_word : (x : ℕ) (xs : List ℕ) → AreWords (x ∷ xs) → x < 2 ^ 64
first_word x xs words = words 0 0 (omega arith)

further_words : (x : ℕ) (xs : List ℕ) → AreWords (x ∷ xs) → AreWords xs
further_words x xs words = λ k d lt. words (suc k) d (omega arith)

-- numbers that have the same bytes are the same
pub same_numbers : (xs ys : List ℕ) → AreWords xs → AreWords ys → number_bytes xs ≡ number_bytes ys → xs ≡ ys
same_numbers [] [] fits also e = refl
same_numbers [] (y ∷ ys) fits also e = absurd (omega (arith, ap length e, number_bytes-length (y ∷ ys)))
same_numbers (x ∷ xs) [] fits also e = absurd (omega (arith, ap length e, number_bytes-length (x ∷ xs)))
same_numbers (x ∷ xs) (y ∷ ys) fits also e =
    let one = word_again x (number_bytes xs) (first_word x xs fits) in
    let other = word_again y (number_bytes ys) (first_word y ys also) in
    let first : x ≡ y = sym one ∙ ap (big_number 8) e ∙ other in
    let moved : word_bytes x ++ number_bytes xs ≡ word_bytes x ++ number_bytes ys = e ∙ ap (λ (z : ℕ). word_bytes z ++ number_bytes ys) (sym first) in
    let rest = same_numbers xs ys (further_words x xs fits) (further_words y ys also) (append_cancel_left (word_bytes x) (number_bytes xs) (number_bytes ys) moved) in
    cc

-- one number more, by the next 8 bytes
pub bytes_more : (body rest front after numbers pushed : List ℕ) (number : ℕ) → body ≡ number_bytes numbers ++ rest → front ≡ take 8 rest → after ≡ drop 8 rest → length front ≡ 8
    → ((i : ℕ) → get_or front i 0 < 256) → number ≡ big_number 8 front → pushed ≡ numbers ++ number ∷ [] → body ≡ number_bytes pushed ++ after
bytes_more body rest front after numbers pushed number whole begins ends len fits is push =
    let both : rest ≡ front ++ after = sym (take-append-drop 8 rest) ∙ sym (ap₂ ◌++◌ begins ends) in
    let word : word_bytes number ≡ front = ap word_bytes is ∙ bytes_again front len fits in
    let grown : number_bytes pushed ≡ number_bytes numbers ++ front =
    ap number_bytes push ∙ flat_map-append word_bytes numbers (number ∷ []) ∙ ap (λ (z : List ℕ). number_bytes numbers ++ z) (append-nil (word_bytes number) ∙ word) in
    whole ∙ ap (λ (z : List ℕ). number_bytes numbers ++ z) both ∙ sym (append_assoc (number_bytes numbers) front after) ∙ ap (λ (z : List ℕ). z ++ after) (sym grown)

-- the bytes of a part are bytes
pub part_fits : (body before rest front : List ℕ) → body ≡ before ++ rest → front ≡ take 8 rest → ((i : ℕ) → get_or body i 0 < 256) → (i : ℕ) → get_or front i 0 < 256
part_fits body before rest front whole begins fits i =
    let at : get_or (take 8 rest) i 0 < 256 = below (leb_tells 8 i) in
    subst (λ (xs : List ℕ). get_or xs i 0 < 256) (sym begins) at
  where
    below : ((leb 8 i ≡ true) × (8 ≤ i)) ⊎ ((leb 8 i ≡ false) × (i < 8)) → get_or (take 8 rest) i 0 < 256
    below (inl ge) = omega (arith, get_or_past (take 8 rest) i 0 (omega (arith, ge.1, length-take 8 rest)))
    below (inr lt) =
        let of_rest = get_or-take 8 rest i 0 lt.1 in
        let of_both = get_or-append-add before rest i 0 in
        let of_body = ap (λ (xs : List ℕ). get_or xs (length before + i) 0) whole in
        omega (arith, fits (length before + i), of_rest, of_both, of_body)

-- what is written is the bytes of three lists, one after the other
pub three_written : (a b c : List ℕ) (one two three : List ℕ) → one ≡ number_bytes a → two ≡ one ++ number_bytes b → three ≡ two ++ number_bytes c → three ≡ number_bytes (a ++ (b ++ c))
three_written a b c one two three e f g =
    let both : two ≡ number_bytes (a ++ b) = f ∙ ap (λ (z : List ℕ). z ++ number_bytes b) e ∙ sym (flat_map-append word_bytes a b) in
    g ∙ ap (λ (z : List ℕ). z ++ number_bytes c) both ∙ sym (flat_map-append word_bytes (a ++ b) c) ∙ ap number_bytes (append_assoc a b c)
