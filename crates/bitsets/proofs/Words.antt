-- Words, and the numbers that they stand for.
use Rattle.std.proofs.Common.{◌≡◌, ℕ, ◌+◌, ◌-◌, ◌<◌, ◌≤◌, List, length, drop, map, slice_index, take, slice_index_or, slice_set, ◌++◌, ap, sym, ◌∙◌, arith}
use Rattle.std.proofs.lemmas.List.{drop-map, get_or-append_right, get_or-drop, get_or-map, get_or-set_same, get_or-set_other, get_or-take, get_or_append_left, length-append, length-drop, length-map, length-take-le, map-append, map-set, take-map}
use Rattle.std.specs.List.{slice_range}
use borrow.Rule.Slice.PartMut.{post_of, put_mid}

module _ {W : Type 0} (number : W → ℕ) (words : List W) where
  -- the number of a word that is read
  pub at : (i : ℕ) (word : W) → i < length words → word ≡ slice_index_or words i word → number word ≡ slice_index (map number words) i
  at i word low is = ap number is ∙ sym (get_or-map number words i word 0 low)

  pub as_many : length (map number words) ≡ length words
  as_many = length-map words number

  -- one word is written
  pub set_here : (i : ℕ) (word : W) → i < length words → slice_index (map number (slice_set words i word)) i ≡ number word
  set_here i word low = ap (λ ys. slice_index ys i) (map-set number words i word) ∙ get_or-set_same (map number words) i (number word) 0 (omega (arith, low, as_many))

  pub set_there : (i j : ℕ) (word : W) → (j ≡ i → ⊥) → slice_index (map number (slice_set words i word)) j ≡ slice_index (map number words) j
  set_there i j word other = ap (λ ys. slice_index ys j) (map-set number words i word) ∙ get_or-set_other (map number words) i j (number word) 0 other

  -- in a part of a list
  pub in_range : (from to i : ℕ) → i < to - from → slice_index (map number (slice_range words from to)) i ≡ slice_index (map number words) (from + i)
  in_range from to i within =
      ap (λ ys. slice_index ys i) (sym (take-map number (to - from) (drop from words)) ∙ ap (take (to - from)) (sym (drop-map number from words)))
      ∙ get_or-take (to - from) (drop from (map number words)) i 0 within ∙ get_or-drop from (map number words) i 0

  -- where a part is written
  module _ (from wide : ℕ) (part : List W) (low : from + wide ≤ length words) (full : length part ≡ wide) where
    first : length (map number (take from words)) ≡ from
    first = length-map (take from words) number ∙ length-take-le from words (omega (arith, low))

    split : map number (put_mid from wide words part) ≡ map number (take from words) ++ (map number part ++ map number (post_of from wide words))
    split = map-append number (take from words) (part ++ post_of from wide words) ∙ ap (λ ys. map number (take from words) ++ ys) (map-append number part (post_of from wide words))

    pub put_length : length (put_mid from wide words part) ≡ length words
    put_length =
        omega (arith, full, low, length-append (take from words) (part ++ post_of from wide words), length-append part (post_of from wide words), length-take-le from words (omega (arith, low)), length-drop wide (drop from words), length-drop from words)

    pub put_before : (i : ℕ) → i < from → slice_index (map number (put_mid from wide words part)) i ≡ slice_index (map number words) i
    put_before i before =
        ap (λ ys. slice_index ys i) split
        ∙ get_or_append_left (map number (take from words)) (map number part ++ map number (post_of from wide words)) 0 i (omega (arith, before, first))
        ∙ ap (λ ys. slice_index ys i) (sym (take-map number from words)) ∙ get_or-take from (map number words) i 0 before

    pub put_here : (i : ℕ) → from ≤ i → i < from + wide → slice_index (map number (put_mid from wide words part)) i ≡ slice_index (map number part) (i - from)
    put_here i after before =
        ap (λ ys. slice_index ys i) split
        ∙ get_or-append_right (map number (take from words)) (map number part ++ map number (post_of from wide words)) from i 0 first after
        ∙ get_or_append_left (map number part) (map number (post_of from wide words)) 0 (i - from) (omega (arith, after, before, full, length-map part number))

    pub put_after : (i : ℕ) → from + wide ≤ i → slice_index (map number (put_mid from wide words part)) i ≡ slice_index (map number words) i
    put_after i after =
        ap (λ ys. slice_index ys i) split
        ∙ get_or-append_right (map number (take from words)) (map number part ++ map number (post_of from wide words)) from i 0 first (omega (arith, after))
        ∙ get_or-append_right (map number part) (map number (post_of from wide words)) wide (i - from) 0 (length-map part number ∙ full) (omega (arith, after))
        ∙ ap (λ ys. slice_index ys (i - from - wide)) (sym (drop-map number wide (drop from words)) ∙ ap (drop wide) (sym (drop-map number from words)))
        ∙ get_or-drop wide (drop from (map number words)) (i - from - wide) 0 ∙ get_or-drop from (map number words) (wide + (i - from - wide)) 0
        ∙ ap (slice_index (map number words)) (let same : from + (wide + (i - from - wide)) ≡ i = omega (arith, after) in same)
