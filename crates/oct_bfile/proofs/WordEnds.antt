-- The words of a line, one after another.
use Rattle.std.proofs.Common.{◌≡◌, ◌≢◌, ◌==◌, ℕ, ◌<◌, Bool, true, false, not, cond, List, [], ◌∷◌, length, take, drop, refl, sym, ap, ◌∙◌, arith, subst, length-drop, length-take}
use Rattle.std.specs.Prelude.{filter}
use Rattle.std.specs.List.{onto_first, position_or_len, slice_split}
use Rattle.std.proofs.lemmas.List.Splits.{slice_split-cons_yes, slice_split-cons_no}
use Rattle.std.proofs.Math.Dec.{eqb-suc-zero}
use Rattle.oct_text.specs.Words.{Text}
use Rattle.oct_bfile.specs.Bfile.{behind_word, is_blank, is_filled, words}
use Rattle.oct_bfile.proofs.Places.{len-no, len-yes, no_item, rest_from, rest_from-drop, some_item}

-- the parts behind the first
abbrev later_parts : Text → List Text
later_parts [] = []
later_parts (b ∷ bs) = slice_split is_blank bs

-- the first part, and what stands behind it
parts : (bs : Text) → slice_split is_blank bs ≡ take (position_or_len is_blank bs) bs ∷ later_parts (drop (position_or_len is_blank bs) bs)
parts [] = refl
parts (b ∷ bs) = by (is_blank b) refl (parts bs)
  where
    by : (t : Bool) → is_blank b ≡ t → slice_split is_blank bs ≡ take (position_or_len is_blank bs) bs ∷ later_parts (drop (position_or_len is_blank bs) bs)
        → slice_split is_blank (b ∷ bs) ≡ take (position_or_len is_blank (b ∷ bs)) (b ∷ bs) ∷ later_parts (drop (position_or_len is_blank (b ∷ bs)) (b ∷ bs))
    by true passes rest = slice_split-cons_yes is_blank b bs passes ∙ sym (λ i. take (len-yes is_blank b bs passes i) (b ∷ bs) ∷ later_parts (drop (len-yes is_blank b bs passes i) (b ∷ bs)))
    by false fails rest =
        slice_split-cons_no is_blank b bs fails ∙ ap (onto_first b) rest
        ∙ sym (λ i. take (len-no is_blank b bs fails i) (b ∷ bs) ∷ later_parts (drop (len-no is_blank b bs fails i) (b ∷ bs)))

-- what stands behind the first part has the words of the later parts
words-behind : (bs : Text) → words (drop (position_or_len is_blank bs) bs) ≡ filter is_filled (later_parts (drop (position_or_len is_blank bs) bs))
words-behind [] = refl
words-behind (b ∷ bs) = by (is_blank b) refl (words-behind bs)
  where
    by : (t : Bool) → is_blank b ≡ t → words (drop (position_or_len is_blank bs) bs) ≡ filter is_filled (later_parts (drop (position_or_len is_blank bs) bs))
        → words (drop (position_or_len is_blank (b ∷ bs)) (b ∷ bs)) ≡ filter is_filled (later_parts (drop (position_or_len is_blank (b ∷ bs)) (b ∷ bs)))
    by true passes rest =
        ap (λ n. words (drop n (b ∷ bs))) (len-yes is_blank b bs passes) ∙ ap (filter is_filled) (slice_split-cons_yes is_blank b bs passes)
        ∙ sym (ap (λ n. filter is_filled (later_parts (drop n (b ∷ bs)))) (len-yes is_blank b bs passes))
    by false fails rest =
        ap (λ n. words (drop n (b ∷ bs))) (len-no is_blank b bs fails) ∙ rest ∙ sym (ap (λ n. filter is_filled (later_parts (drop n (b ∷ bs)))) (len-no is_blank b bs fails))

-- blanks before the first word say nothing
pub words-unblanked : (bs : Text) → words bs ≡ words (drop (position_or_len (λ b. not (is_blank b)) bs) bs)
words-unblanked [] = refl
words-unblanked (b ∷ bs) = by (is_blank b) refl (words-unblanked bs)
  where
    by : (t : Bool) → is_blank b ≡ t → words bs ≡ words (drop (position_or_len (λ b. not (is_blank b)) bs) bs) → words (b ∷ bs) ≡ words (drop (position_or_len (λ b. not (is_blank b)) (b ∷ bs)) (b ∷ bs))
    by true passes rest = ap (filter is_filled) (slice_split-cons_yes is_blank b bs passes) ∙ rest ∙ sym (ap (λ n. words (drop n (b ∷ bs))) (len-no (λ b. not (is_blank b)) b bs (ap not passes)))
    by false fails rest = sym (ap (λ n. words (drop n (b ∷ bs))) (len-yes (λ b. not (is_blank b)) b bs (ap not fails)))

-- what is left once the blanks are passed over is nothing, or begins with another byte
pub data Unblanked (bs : Text) : Type 0 where
  nothing : bs ≡ [] → Unblanked bs
  begins : (b : ℕ) (rest : Text) → bs ≡ b ∷ rest → is_blank b ≡ false → Unblanked bs

pub unblanked : (bs : Text) → Unblanked (drop (position_or_len (λ b. not (is_blank b)) bs) bs)
unblanked [] = nothing refl
unblanked (b ∷ bs) = by (is_blank b) refl (unblanked bs)
  where
    by : (t : Bool) → is_blank b ≡ t → Unblanked (drop (position_or_len (λ b. not (is_blank b)) bs) bs) → Unblanked (drop (position_or_len (λ b. not (is_blank b)) (b ∷ bs)) (b ∷ bs))
    by true passes rest = subst (λ n. Unblanked (drop n (b ∷ bs))) (sym (len-no (λ b. not (is_blank b)) b bs (ap not passes))) rest
    by false fails rest = begins b bs (ap (λ n. drop n (b ∷ bs)) (len-yes (λ b. not (is_blank b)) b bs (ap not fails))) fails

-- the word with which a line begins has a byte
pub word_filled : (b : ℕ) (bs : Text) → is_blank b ≡ false → 0 < length (take (position_or_len is_blank (b ∷ bs)) (b ∷ bs))
word_filled b bs fails = rw (len-no is_blank b bs fails) (omega arith)

-- a line that begins with a word: the word, and the words behind it
pub words-first : (b : ℕ) (bs : Text) → is_blank b ≡ false → words (b ∷ bs) ≡ take (position_or_len is_blank (b ∷ bs)) (b ∷ bs) ∷ words (drop (position_or_len is_blank (b ∷ bs)) (b ∷ bs))
words-first b bs fails =
    ap (filter is_filled) (parts (b ∷ bs))
    ∙ ap (λ t. cond t (take (position_or_len is_blank (b ∷ bs)) (b ∷ bs) ∷ filter is_filled (later_parts (drop (position_or_len is_blank (b ∷ bs)) (b ∷ bs)))) (filter is_filled (later_parts (drop (position_or_len is_blank (b ∷ bs)) (b ∷ bs)))))
    (ap (λ n. is_filled (take n (b ∷ bs))) (len-no is_blank b bs fails) ∙ ap not (eqb-suc-zero (length (take (position_or_len is_blank bs) bs))))
    ∙ ap (λ l. take (position_or_len is_blank (b ∷ bs)) (b ∷ bs) ∷ l) (sym (words-behind (b ∷ bs)))

-- a line that has a word: by how many blanks stand before it, and by its length
pub record IsWord (line word behind : Text) : Type 0 where
  pub words : words line ≡ word ∷ words behind
  pub filled : 0 < length word

word_at : (bs : Text) → Unblanked bs → bs ≢ [] → IsWord bs (take (position_or_len is_blank bs) bs) (drop (position_or_len is_blank bs) bs)
word_at bs (nothing none) some = absurd (some none)
word_at bs (begins b rest is fails) some =
    subst (λ cs. IsWord cs (take (position_or_len is_blank cs) cs) (drop (position_or_len is_blank cs) cs)) (sym is) (record { words = words-first b rest fails; filled = word_filled b rest fails })

pub next_word_is : (line : Text) (k n : ℕ) → k ≡ position_or_len (λ b. not (is_blank b)) line → n ≡ position_or_len is_blank (rest_from k line) → (length (rest_from k line) == 0) ≡ false
    → IsWord line (take n (rest_from k line)) (rest_from n (rest_from k line))
next_word_is line k n blanks len filled =
    let rest = rest_from k line in
    let is : rest ≡ drop (position_or_len (λ b. not (is_blank b)) line) line = rest_from-drop k line ∙ ap (λ m. drop m line) blanks in
    let word = word_at rest (subst Unblanked (sym is) (unblanked line)) (some_item rest filled) in
    record {
      words = words-unblanked line ∙ ap words (sym is) ∙ word.words ∙ sym (λ i. take (len i) rest ∷ words ((rest_from-drop n rest ∙ ap (λ m. drop m rest) len) i));
      filled = subst (λ m. 0 < length (take m rest)) (sym len) word.filled;
    }

-- and one that has none
pub no_word_is : (line : Text) (k : ℕ) → k ≡ position_or_len (λ b. not (is_blank b)) line → (length (rest_from k line) == 0) ≡ true → words line ≡ []
no_word_is line k blanks none =
    words-unblanked line ∙ ap words (ap (λ m. drop m line) (sym blanks) ∙ sym (rest_from-drop k line) ∙ no_item (rest_from k line) none)

-- what stands behind the first word
pub behind_word_is : (line : Text) (k n : ℕ) → k ≡ position_or_len (λ b. not (is_blank b)) line → n ≡ position_or_len is_blank (rest_from k line) → rest_from n (rest_from k line) ≡ behind_word line
behind_word_is line k n blanks len =
    rest_from-drop n (rest_from k line) ∙ ap (λ m. drop m (rest_from k line)) len
    ∙ ap (λ r. drop (position_or_len is_blank r) r) (rest_from-drop k line ∙ ap (λ m. drop m line) blanks)

-- what stands behind a word that has a byte is shorter than the line
pub shorter_behind : (line : Text) (k n : ℕ) → 0 < length (take n (rest_from k line)) → length (rest_from n (rest_from k line)) < length line
shorter_behind line k n filled =
    let rest = rest_from-drop k line in
    let behind = rest_from-drop n (rest_from k line) in
    omega (arith, ap length rest, ap length behind, length-drop k line, length-drop n (rest_from k line), length-take n (rest_from k line), filled)
