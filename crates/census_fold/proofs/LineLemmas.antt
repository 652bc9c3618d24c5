-- The first line of an input, which goes to the first line feed.
use Rattle.std.proofs.Common.{◌≡◌, ◌≢◌, ◌⊎◌, ◌==◌, ℕ, ◌+◌, ◌-◌, ◌<◌, Bool, true, false, inl, inr, cond, List, [], ◌∷◌, ◌++◌, length, take, slice_index, refl, sym, ◌∙◌, ap, arith, eq-eqb, ne_eqb, eqb-true, nat_eq}
use Rattle.std.specs.List.{slice_split, All}
use Rattle.std.specs.Io.BufRead.{take_through, drop_through}
use Rattle.std.specs.Str.Lines.{lines, lines_of_parts, strip_carriage_return}
use Rattle.std.proofs.BufReadLemmas.{take_through-append, drop_through-append}
use Rattle.std.proofs.lemmas.List.{append-nil, length-append}
use Rattle.std.proofs.lemmas.List.Elements.{All-cons, All-get_or, All-nil, All-weaker}
use Rattle.std.proofs.lemmas.List.Splits.{slice_split_none, slice_split_at, length-slice_split}
use Rattle.std.proofs.Math.Seq.{get_or-append_seam, take-append_seam}
use Rattle.std.proofs.Math.Dec.{eqb-suc-zero}
use Rattle.oct_delta.specs.Text.{Bytes}
use Rattle.census_fold.specs.Folded.{text_of_line}

-- no line feed
abbrev Unbroken : Bytes → Type 0
Unbroken xs = All (λ b. b ≢ 10) xs

-- bytes before a first line feed, and those after it
record Broken (xs : Bytes) : Type 0 where
  front : Bytes
  rest : Bytes
  whole : xs ≡ front ++ 10 ∷ rest
  unbroken : Unbroken front

parted-cons : (x : ℕ) (xs : Bytes) (b : Bool) → (x == 10) ≡ b → Broken xs ⊎ Unbroken xs → Broken (x ∷ xs) ⊎ Unbroken (x ∷ xs)
parted-cons x xs true is later = inl (record { front = []; rest = xs; whole = ap (λ y. y ∷ xs) (eqb-true x 10 is); unbroken = All-nil (λ b. b ≢ 10) })
parted-cons x xs false isnt (inl b) =
    let other : x ≢ 10 = λ is. let never : true ≡ false = sym (eq-eqb x 10 is) ∙ isnt in cc in
    inl (record { front = x ∷ b.front; rest = b.rest; whole = ap (λ l. x ∷ l) b.whole; unbroken = All-cons (λ y. y ≢ 10) x b.front other b.unbroken })
parted-cons x xs false isnt (inr none) =
    let other : x ≢ 10 = λ is. let never : true ≡ false = sym (eq-eqb x 10 is) ∙ isnt in cc in
    inr (All-cons (λ y. y ≢ 10) x xs other none)

parted : (xs : Bytes) → Broken xs ⊎ Unbroken xs
parted [] = inr (All-nil (λ b. b ≢ 10))
parted (x ∷ xs) = parted-cons x xs (x == 10) refl (parted xs)

-- ---- a line that ends with a line feed

-- a line that is not the last is what stands before the line feed, less a carriage return
lines_of_parts-cons : (x : Bytes) (parts : List Bytes) → 0 < length parts → lines_of_parts (x ∷ parts) ≡ strip_carriage_return x ∷ lines_of_parts parts
lines_of_parts-cons x [] h = absurd (omega arith)
lines_of_parts-cons x (y ∷ more) h = refl

lines-broken : (front rest : Bytes) → Unbroken front → lines (front ++ 10 ∷ rest) ≡ strip_carriage_return front ∷ lines rest
lines-broken front rest none =
    ap lines_of_parts (slice_split_at (λ b. nat_eq b 10) front 10 rest (All-weaker (λ b. b ≢ 10) (λ b. nat_eq b 10 ≡ false) (λ b other. ne_eqb b 10 other) front none) refl)
    ∙ lines_of_parts-cons front (slice_split (λ b. nat_eq b 10) rest) (omega (arith, length-slice_split (λ b. nat_eq b 10) rest))

text-broken : (front : Bytes) → text_of_line (front ++ 10 ∷ []) ≡ strip_carriage_return front
text-broken front =
    let last : length (front ++ 10 ∷ []) - 1 ≡ length front = omega (arith, length-append front (10 ∷ [])) in
    let ends : (slice_index (front ++ 10 ∷ []) (length (front ++ 10 ∷ []) - 1) == 10) ≡ true =
    ap (λ n. slice_index (front ++ 10 ∷ []) n == 10) last ∙ ap (λ b. b == 10) (get_or-append_seam front 10 [] 0) in
    ap (λ b. cond b (strip_carriage_return (take (length (front ++ 10 ∷ []) - 1) (front ++ 10 ∷ []))) (front ++ 10 ∷ [])) ends
    ∙ ap strip_carriage_return (ap (λ n. take n (front ++ 10 ∷ [])) last ∙ take-append_seam front (10 ∷ []))

-- ---- a line without one

lines_of_parts-last : (xs : Bytes) → 0 < length xs → lines_of_parts (xs ∷ []) ≡ xs ∷ []
lines_of_parts-last [] h = absurd (omega arith)
lines_of_parts-last (x ∷ xs) h = rw (eqb-suc-zero (length xs)) refl

lines-unbroken : (xs : Bytes) → 0 < length xs → Unbroken xs → lines xs ≡ xs ∷ []
lines-unbroken xs h none =
    ap lines_of_parts (slice_split_none (λ b. nat_eq b 10) xs (All-weaker (λ b. b ≢ 10) (λ b. nat_eq b 10 ≡ false) (λ b other. ne_eqb b 10 other) xs none))
    ∙ lines_of_parts-last xs h

text-unbroken : (xs : Bytes) → 0 < length xs → Unbroken xs → text_of_line xs ≡ xs
text-unbroken xs h none =
    let other = All-get_or (λ b. b ≢ 10) xs (length xs - 1) 0 (omega arith) none in
    ap (λ b. cond b (strip_carriage_return (take (length xs - 1) xs)) xs) (ne_eqb (slice_index xs (length xs - 1)) 10 other)

-- ---- the first line

through_broken : (front rest : Bytes) → Unbroken front → take_through 10 (front ++ 10 ∷ rest) ≡ front ++ 10 ∷ []
through_broken front rest none = take_through-append 10 front (10 ∷ rest) none

after_broken : (front rest : Bytes) → Unbroken front → drop_through 10 (front ++ 10 ∷ rest) ≡ rest
after_broken front rest none = drop_through-append 10 front (10 ∷ rest) none

through_unbroken : (xs : Bytes) → Unbroken xs → take_through 10 xs ≡ xs
through_unbroken xs none = ap (take_through 10) (sym (append-nil xs)) ∙ take_through-append 10 xs [] none ∙ append-nil xs

after_unbroken : (xs : Bytes) → Unbroken xs → drop_through 10 xs ≡ []
after_unbroken xs none = ap (drop_through 10) (sym (append-nil xs)) ∙ drop_through-append 10 xs [] none

-- the lines are what the bytes to the first line feed say, and the lines after them
pub lines-first : (xs : Bytes) → 0 < length xs → lines xs ≡ text_of_line (take_through 10 xs) ∷ lines (drop_through 10 xs)
lines-first xs h = at (parted xs)
  where
    at : Broken xs ⊎ Unbroken xs → lines xs ≡ text_of_line (take_through 10 xs) ∷ lines (drop_through 10 xs)
    at (inl b) =
        let text = ap text_of_line (ap (take_through 10) b.whole ∙ through_broken b.front b.rest b.unbroken) ∙ text-broken b.front in
        let next = ap lines (ap (drop_through 10) b.whole ∙ after_broken b.front b.rest b.unbroken) in
        ap lines b.whole ∙ lines-broken b.front b.rest b.unbroken ∙ (λ i. sym text i ∷ sym next i)
    at (inr none) =
        let text = ap text_of_line (through_unbroken xs none) ∙ text-unbroken xs h none in
        let next = ap lines (after_unbroken xs none) in
        lines-unbroken xs h none ∙ (λ i. sym text i ∷ sym next i)

through-lengths-cons : (x : ℕ) (xs : Bytes) (b : Bool) → length (take_through 10 xs) + length (drop_through 10 xs) ≡ length xs
    → length (cond b (x ∷ []) (x ∷ take_through 10 xs)) + length (cond b xs (drop_through 10 xs)) ≡ length (x ∷ xs)
through-lengths-cons x xs true later = omega arith
through-lengths-cons x xs false later = omega (arith, later)

-- and those bytes, and the ones after them, are all
pub through-lengths : (xs : Bytes) → length (take_through 10 xs) + length (drop_through 10 xs) ≡ length xs
through-lengths [] = refl
through-lengths (x ∷ xs) = through-lengths-cons x xs (x == 10) (through-lengths xs)
