-- A text without a fault spells its code.
use Rattle.std.proofs.Common.{arith, ◌≡◌, ◌≢◌, ◌⊎◌, ◌==◌, ℕ, zero, suc, ◌+◌, ◌-◌, ◌<◌, ◌≤◌, Bool, true, false, not, ◌&&◌, cond, List, [], ◌∷◌, ◌++◌, length, replicate, Option, Some, None, refl, sym, ap, ◌∙◌, subst, nat_le, nat_lt, leb-true}
use mathlib.Core.Logic.{inl, inr}
use Rattle.std.specs.Prelude.{slice_get, codes, unwrap_or}
use Rattle.std.proofs.lemmas.List.Elements.{All-head, All-tail, All-cons}
use Rattle.std.proofs.lemmas.List.{length-replicate, append-nil}
use Rattle.std.proofs.Common.{length-append, append_assoc}
use Rattle.std.specs.List.{All}
use Rattle.std.proofs.lemmas.Bool.{ne_eqb, eqb-true, ltb-false, both_ways, le-ltb, le-leb, and_from, not-false, not_from_true}
use Rattle.std.proofs.lemmas.Bool.Decides.{nat_tests}
use Rattle.std.proofs.Math.Bool.{and-false}
use Rattle.std.specs.Cmp.{first_so, second_so}
use Rattle.oct_code.specs.Code.{Code, IsCode}
use Rattle.oct_code.specs.CodeText.{IsCodeText, digit_bytes}
use Rattle.oct_code.specs.TextFaults.{parts, text_fault, trimmed, is_empty, digits_of, around_point, after_head, parts_fault, is_head_byte, is_digit_byte, are_digit_bytes}
use Rattle.oct_code.specs.declared.error.CodeError.{CodeError}
use Rattle.oct_code.specs.declared.error.CodeError.TheVariants.{Form, Head, Digit, Long}
use Rattle.oct_code.specs.declared.limits.TheConstants.{MAX_DIGITS}
use Rattle.oct_code.proofs.Written.{length-bytes}

-- ---- the bytes without the zeros at their end

trimmed-zero : (bytes : List ℕ) → trimmed (bytes ++ 48 ∷ []) ≡ trimmed bytes
trimmed-zero [] = refl
trimmed-zero (b ∷ bytes) = ap (λ rest. cond ((b == 48) && is_empty rest) [] (b ∷ rest)) (trimmed-zero bytes)

not_empty : (bytes : List ℕ) (b : ℕ) → is_empty (bytes ++ b ∷ []) ≡ false
not_empty [] b = refl
not_empty (c ∷ bytes) b = refl

trimmed-push : (bytes : List ℕ) (b : ℕ) → (b ≡ 48 → ⊥) → trimmed (bytes ++ b ∷ []) ≡ bytes ++ b ∷ []
trimmed-push [] b other = ap (λ t. cond (t && true) [] (b ∷ [])) (ne_eqb b 48 other)
trimmed-push (c ∷ bytes) b other =
    ap (λ rest. cond ((c == 48) && is_empty rest) [] (c ∷ rest)) (trimmed-push bytes b other)
    ∙ ap (λ t. cond ((c == 48) && t) [] (c ∷ bytes ++ b ∷ [])) (not_empty bytes b)
    ∙ ap (λ t. cond t [] (c ∷ bytes ++ b ∷ [])) (and-false (c == 48))

pub trimmed-kept : (digits front : List ℕ) (last : ℕ) → digits ≡ front ++ last ∷ [] → (last ≡ 48 → ⊥) → trimmed digits ≡ digits
trimmed-kept digits front last is other = ap trimmed is ∙ trimmed-push front last other ∙ sym is

pub trimmed-less : (digits front : List ℕ) (last : ℕ) → digits ≡ front ++ last ∷ [] → last ≡ 48 → trimmed front ≡ trimmed digits
trimmed-less digits front last is is_zero = sym (ap trimmed (is ∙ ap (λ b. front ++ b ∷ []) is_zero) ∙ trimmed-zero front)

empty_is : (bytes : List ℕ) → is_empty bytes ≡ true → bytes ≡ []
empty_is [] h = refl
empty_is (b ∷ bytes) h = cc

splits_by : (b : ℕ) (bytes : List ℕ) (t : Bool) → ((b == 48) && is_empty (trimmed bytes)) ≡ t → (n : ℕ) → bytes ≡ trimmed bytes ++ replicate n 48 → (m : ℕ) × (b ∷ bytes ≡ cond t [] (b ∷ trimmed bytes) ++ replicate m 48)
splits_by b bytes true h n e =
    let zero : b ≡ 48 = eqb-true b 48 (first_so _ _ h) in
    let rest : bytes ≡ replicate n 48 = e ∙ ap (λ l. l ++ replicate n 48) (empty_is _ (second_so (b == 48) _ h)) in
    (suc n, λ i. zero i ∷ rest i)
splits_by b bytes false h n e = (n, ap (λ l. b ∷ l) e)

trimmed-splits : (bytes : List ℕ) → (n : ℕ) × (bytes ≡ trimmed bytes ++ replicate n 48)
trimmed-splits [] = (0, refl)
trimmed-splits (b ∷ bytes) = let rest = trimmed-splits bytes in splits_by b bytes ((b == 48) && is_empty (trimmed bytes)) refl rest.0 rest.1

-- the last byte is no zero, by recursion
ends_well : List ℕ → Type 0
ends_well [] = Unit {0}
ends_well (b ∷ []) = b ≡ 48 → ⊥
ends_well (b ∷ c ∷ bytes) = ends_well (c ∷ bytes)

ends_by : (b : ℕ) (rest : List ℕ) (t : Bool) → ((b == 48) && is_empty rest) ≡ t → ends_well rest → ends_well (cond t [] (b ∷ rest))
unfolding ends_well
ends_by b rest true h e = tt
ends_by b [] false h e = λ zero. both_ways (b == 48) (and_true (b == 48) h) (subst (λ x. (x == 48) ≡ true) (sym zero) refl)
  where
    and_true : (a : Bool) → (a && true) ≡ false → a ≡ false
    and_true true h = cc
    and_true false h = refl
ends_by b (c ∷ rest) false h e = e

trimmed-ends : (bytes : List ℕ) → ends_well (trimmed bytes)
unfolding ends_well
trimmed-ends [] = tt
trimmed-ends (b ∷ bytes) = ends_by b (trimmed bytes) ((b == 48) && is_empty (trimmed bytes)) refl (trimmed-ends bytes)

some_is : (m n : ℕ) → Some m ≡ Some n → m ≡ n
some_is m n e = ap (λ o. unwrap_or o 0) e

last_digit : (bytes : List ℕ) → All (λ b. 48 ≤ b) bytes → ends_well bytes → slice_get (digits_of bytes) (length (digits_of bytes) - 1) ≢ Some 0
unfolding ends_well
last_digit [] all h = λ e. cc
last_digit (b ∷ []) all h = λ e. let is : b - 48 ≡ 0 = some_is _ _ e in h (omega (arith, is, All-head (λ b. 48 ≤ b) b [] all))
last_digit (b ∷ c ∷ bytes) all h =
    let n : ℕ = length (digits_of bytes) in
    let one : suc n - 1 ≡ n = omega arith in
    let two : suc (suc n) - 1 ≡ suc n = omega arith in
    λ e. last_digit (c ∷ bytes) (All-tail (λ b. 48 ≤ b) b (c ∷ bytes) all) h (ap (slice_get (digits_of (c ∷ bytes))) one ∙ sym (ap (slice_get (digits_of (b ∷ c ∷ bytes))) two) ∙ e)

-- ---- bytes of digits

least_byte : (bytes : List ℕ) → are_digit_bytes bytes ≡ true → All (λ b. 48 ≤ b) bytes
least_byte [] h = λ k d lt. absurd (omega (arith, lt))
least_byte (b ∷ bytes) h = All-cons (λ b. 48 ≤ b) b bytes (leb-true 48 b (first_so _ _ (first_so _ _ h))) (least_byte bytes (second_so (is_digit_byte b) _ h))

octal_digits : (bytes : List ℕ) → are_digit_bytes bytes ≡ true → All (λ d. d ≤ 7) (digits_of bytes)
octal_digits [] h = λ k d lt. absurd (omega (arith, lt))
octal_digits (b ∷ bytes) h =
    let most = leb-true b 55 (second_so (nat_le 48 b) _ (first_so _ _ h)) in
    All-cons (λ d. d ≤ 7) (b - 48) (digits_of bytes) (omega (arith, most)) (octal_digits bytes (second_so (is_digit_byte b) _ h))

bytes_again : (bytes : List ℕ) → are_digit_bytes bytes ≡ true → digit_bytes (digits_of bytes) ≡ bytes
bytes_again [] h = refl
bytes_again (b ∷ bytes) h =
    let least = leb-true 48 b (first_so _ _ (first_so _ _ h)) in
    let same : 48 + (b - 48) ≡ b = omega (arith, least) in
    λ i. same i ∷ bytes_again bytes (second_so (is_digit_byte b) _ h) i

octal_by : (b : ℕ) (rest : List ℕ) (t : Bool) → is_digit_byte b ≡ true → are_digit_bytes rest ≡ true → are_digit_bytes (cond t [] (b ∷ rest)) ≡ true
octal_by b rest true h k = refl
octal_by b rest false h k = ap (λ x. x && are_digit_bytes rest) h ∙ k

pub trimmed-octal : (bytes : List ℕ) → are_digit_bytes bytes ≡ true → are_digit_bytes (trimmed bytes) ≡ true
trimmed-octal [] h = refl
trimmed-octal (b ∷ bytes) h = octal_by b (trimmed bytes) ((b == 48) && is_empty (trimmed bytes)) (first_so _ _ h) (trimmed-octal bytes (second_so (is_digit_byte b) _ h))

zero_bytes : (n : ℕ) → digit_bytes (replicate n 0) ≡ replicate n 48
zero_bytes zero = refl
zero_bytes (suc n) = ap (λ l. 48 ∷ l) (zero_bytes n)

map_both : (xs ys : List ℕ) → digit_bytes (xs ++ ys) ≡ digit_bytes xs ++ digit_bytes ys
map_both [] ys = refl
map_both (x ∷ xs) ys = ap (λ l. (48 + x) ∷ l) (map_both xs ys)

spelled_bytes : (bytes : List ℕ) → are_digit_bytes bytes ≡ true → bytes ≡ digit_bytes (digits_of (trimmed bytes) ++ replicate (trimmed-splits bytes).0 0)
spelled_bytes bytes h =
    (trimmed-splits bytes).1
    ∙ sym (map_both (digits_of (trimmed bytes)) (replicate (trimmed-splits bytes).0 0)
    ∙ (λ i. bytes_again (trimmed bytes) (trimmed-octal bytes h) i ++ zero_bytes (trimmed-splits bytes).0 i))

pub same_length : (bytes : List ℕ) → length (digits_of bytes) ≡ length bytes
same_length [] = refl
same_length (b ∷ bytes) = ap suc (same_length bytes)

-- ---- parts without a fault

pub record Fine (head : ℕ) (bytes : List ℕ) : Type 0 where
  pub some : is_empty bytes ≡ false
  pub of_head : is_head_byte head ≡ true
  pub octal : are_digit_bytes bytes ≡ true
  pub short : length (trimmed bytes) ≤ MAX_DIGITS

guard_none : (b : Bool) (e : CodeError) (x : Option CodeError) → cond b (Some e) x ≡ None → (b ≡ false) × (x ≡ None)
guard_none true e x h = cc
guard_none false e x h = (refl, h)

pub fine : (head : ℕ) (bytes : List ℕ) → parts_fault head bytes ≡ None → Fine head bytes
fine head bytes ok =
    let last : Option CodeError = cond (nat_lt MAX_DIGITS (length (trimmed bytes))) (Some Long) None in
    let octals : Option CodeError = cond (not (are_digit_bytes bytes)) (Some Digit) last in
    let heads : Option CodeError = cond (not (is_head_byte head)) (Some Head) octals in
    let first = guard_none (is_empty bytes) Form heads ok in
    let second = guard_none (not (is_head_byte head)) Head octals first.1 in
    let third = guard_none (not (are_digit_bytes bytes)) Digit last second.1 in
    let fourth = guard_none (nat_lt MAX_DIGITS (length (trimmed bytes))) Long None third.1 in
    record { some = first.0; of_head = not-false _ second.0; octal = not-false _ third.0; short = ltb-false MAX_DIGITS (length (trimmed bytes)) fourth.0 }

head_digit : (head : ℕ) → is_head_byte head ≡ true → (head - 48 ≡ 0) ⊎ (head - 48 ≡ 4)
head_digit head h = grind (arith, nat_tests)

pub head_least : (head : ℕ) → is_head_byte head ≡ true → 48 ≤ head
head_least head h = grind (arith, nat_tests)

pub fine_code : (head : ℕ) (bytes : List ℕ) → Fine head bytes → IsCode (record { head = head - 48; digits = digits_of (trimmed bytes) })
fine_code head bytes f = record {
  head = head_digit head f.of_head;
  len = subst (λ n. n ≤ MAX_DIGITS) (sym (same_length (trimmed bytes))) f.short;
  octal = octal_digits (trimmed bytes) (trimmed-octal bytes f.octal);
  last = last_digit (trimmed bytes) (least_byte (trimmed bytes) (trimmed-octal bytes f.octal)) (trimmed-ends bytes);
}

-- ---- the parts of a text

first_part : Option (ℕ × List ℕ) → ℕ
first_part None = 0
first_part (Some found) = found.0

second_part : Option (ℕ × List ℕ) → List ℕ
second_part None = []
second_part (Some found) = found.1

parts_at : {n : ℕ} {l : List ℕ} (head : ℕ) (bytes : List ℕ) → parts n l ≡ parts head bytes → (n ≡ head) × (l ≡ bytes)
unfolding first_part second_part
parts_at head bytes e = (ap first_part e, ap second_part e)

after_head_by : (b p : ℕ) (rest : List ℕ) (t : Bool) → (p == 46) ≡ t → (head : ℕ) (bytes : List ℕ) → cond t (parts b rest) None ≡ parts head bytes → b ∷ p ∷ rest ≡ head ∷ 46 ∷ bytes
after_head_by b p rest true point head bytes e = let same = parts_at head bytes e in λ i. same.0 i ∷ eqb-true p 46 point i ∷ same.1 i
after_head_by b p rest false point head bytes e = cc

around_by : (b : ℕ) (rest : List ℕ) (t : Bool) → (b == 46) ≡ t → (head : ℕ) (bytes : List ℕ) → cond t (parts 48 rest) (after_head b rest) ≡ parts head bytes → ((head ≡ 48) × (b ∷ rest ≡ 46 ∷ bytes)) ⊎ (b ∷ rest ≡ head ∷ 46 ∷ bytes)
around_by b rest true point head bytes e = let same = parts_at head bytes e in inl (sym same.0, λ i. eqb-true b 46 point i ∷ same.1 i)
around_by b [] false point head bytes e = cc
around_by b (p ∷ rest) false point head bytes e = inr (after_head_by b p rest (p == 46) refl head bytes e)

around : (text : List ℕ) (head : ℕ) (bytes : List ℕ) → around_point text ≡ parts head bytes → ((head ≡ 48) × (text ≡ 46 ∷ bytes)) ⊎ (text ≡ head ∷ 46 ∷ bytes)
around [] head bytes e = cc
around (b ∷ rest) head bytes e = around_by b rest (b == 46) refl head bytes e

some_digits : (bytes : List ℕ) (n : ℕ) → is_empty bytes ≡ false → bytes ≡ trimmed bytes ++ replicate n 48 → 0 < length (digits_of (trimmed bytes)) + n
some_digits [] n h e = cc
some_digits (b ∷ bytes) n h e =
    let lengths : suc (length bytes) ≡ length (trimmed (b ∷ bytes)) + n = ap length e ∙ length-append (trimmed (b ∷ bytes)) (replicate n 48) ∙ ap (λ k. length (trimmed (b ∷ bytes)) + k) (length-replicate n 48) in
    let lengths2 : length (digits_of (trimmed (b ∷ bytes))) ≡ length (trimmed (b ∷ bytes)) = same_length (trimmed (b ∷ bytes)) in
    omega (arith, lengths, lengths2)

pub spelled : (text : List ℕ) (head : ℕ) (bytes : List ℕ) → around_point text ≡ parts head bytes → Fine head bytes → IsCodeText text (record { head = head - 48; digits = digits_of (trimmed bytes) })
spelled text head bytes e f = elim (around text head bytes e) [
  | inl w ↦ record {
    before = [];
    zeros = (trimmed-splits bytes).0;
    valid = fine_code head bytes f;
    head = inl (refl, ap (λ h. h - 48) w.0);
    some = some_digits bytes _ f.some (trimmed-splits bytes).1;
    spelled = w.1 ∙ ap (λ l. 46 ∷ l) (spelled_bytes bytes f.octal);
  }
  | inr w ↦ record {
    before = head ∷ [];
    zeros = (trimmed-splits bytes).0;
    valid = fine_code head bytes f;
    head = inr (let same : head ≡ 48 + (head - 48) = omega (arith, head_least head f.of_head) in ap (λ h. h ∷ []) same);
    some = some_digits bytes _ f.some (trimmed-splits bytes).1;
    spelled = w ∙ ap (λ l. head ∷ 46 ∷ l) (spelled_bytes bytes f.octal);
  }
]

-- ---- a code's text has no fault

pass : (b : Bool) (e : CodeError) (x : Option CodeError) → b ≡ false → x ≡ None → cond b (Some e) x ≡ None
pass true e x h k = cc
pass false e x h k = k

parts_none : (head : ℕ) (bytes : List ℕ) → Fine head bytes → parts_fault head bytes ≡ None
parts_none head bytes f =
    pass _ Form _ f.some (pass _ Head _ (not_from_true _ f.of_head) (pass _ Digit _ (not_from_true _ f.octal) (pass _ Long _ (le-ltb MAX_DIGITS (length (trimmed bytes)) f.short) refl)))

filled_in : (l : List ℕ) → 0 < length l → is_empty l ≡ false
filled_in [] h = absurd (omega (arith, h))
filled_in (b ∷ l) h = refl

octal_spelled : (digits : List ℕ) (n : ℕ) → All (λ d. d ≤ 7) digits → are_digit_bytes (digit_bytes (digits ++ replicate n 0)) ≡ true
octal_spelled [] zero all = refl
octal_spelled [] (suc n) all = octal_spelled [] n all
octal_spelled (d ∷ digits) n all =
    let one : d ≤ 7 = All-head (λ d. d ≤ 7) d digits all in
    and_from _ _ (and_from _ _ (le-leb 48 (48 + d) (omega arith)) (le-leb (48 + d) 55 (omega (arith, one)))) (octal_spelled digits n (All-tail (λ d. d ≤ 7) d digits all))

no_longer_by : (b : ℕ) (rest : List ℕ) (t : Bool) (n : ℕ) → length rest ≤ n → length (cond t [] (b ∷ rest)) ≤ suc n
no_longer_by b rest true n h = omega arith
no_longer_by b rest false n h = omega (arith, h)

no_longer : (bytes : List ℕ) → length (trimmed bytes) ≤ length bytes
no_longer [] = omega arith
no_longer (b ∷ bytes) = no_longer_by b (trimmed bytes) ((b == 48) && is_empty (trimmed bytes)) (length bytes) (no_longer bytes)

trimmed-zeros : (n : ℕ) (bytes : List ℕ) → trimmed (bytes ++ replicate n 48) ≡ trimmed bytes
trimmed-zeros zero bytes = ap trimmed (append-nil bytes)
trimmed-zeros (suc n) bytes = ap trimmed (sym (append_assoc bytes (48 ∷ []) (replicate n 48))) ∙ trimmed-zeros n (bytes ++ 48 ∷ []) ∙ trimmed-zero bytes

pub trimmed-spelled : (digits : List ℕ) (n : ℕ) → trimmed (digit_bytes (digits ++ replicate n 0)) ≡ trimmed (digit_bytes digits)
trimmed-spelled digits n = ap trimmed (map_both digits (replicate n 0) ∙ ap (λ l. digit_bytes digits ++ l) (zero_bytes n)) ∙ trimmed-zeros n (digit_bytes digits)

fine_spelled : (c : Code) (n head : ℕ) → IsCode c → 0 < length c.digits + n → is_head_byte head ≡ true → Fine head (digit_bytes (c.digits ++ replicate n 0))
fine_spelled c n head valid some of_head =
    let size : length (digit_bytes (c.digits ++ replicate n 0)) ≡ length c.digits + n = length-bytes _ ∙ length-append c.digits (replicate n 0) ∙ ap (λ k. length c.digits + k) (length-replicate n 0) in
    let cut_length : length (trimmed (digit_bytes (c.digits ++ replicate n 0))) ≡ length (trimmed (digit_bytes c.digits)) = ap length (trimmed-spelled c.digits n) in
    record {
      some = filled_in _ (omega (arith, size, some));
      of_head = of_head;
      octal = octal_spelled c.digits n valid.octal;
      short = omega (arith, cut_length, no_longer (digit_bytes c.digits), length-bytes c.digits, valid.len);
    }

pub no_fault : (text : List ℕ) (c : Code) → IsCodeText text c → text_fault text ≡ None
no_fault text c s =
    let bytes : List ℕ = digit_bytes (c.digits ++ replicate s.zeros 0) in
    let none = λ (head : ℕ) (of_head : is_head_byte head ≡ true). parts_none head bytes (fine_spelled c s.zeros head s.valid s.some of_head) in
    subst (λ t. text_fault t ≡ None) (sym s.spelled) (elim s.head [
      | inl w ↦ subst (λ b. text_fault (b ++ codes "." ++ bytes) ≡ None) (sym w.0) (none 48 refl)
      | inr w ↦ subst (λ b. text_fault (b ++ codes "." ++ bytes) ≡ None) (sym w) (elim s.valid.head [
        | inl z ↦ subst (λ h. text_fault (digit_bytes (h ∷ []) ++ codes "." ++ bytes) ≡ None) (sym z) (none 48 refl)
        | inr z ↦ subst (λ h. text_fault (digit_bytes (h ∷ []) ++ codes "." ++ bytes) ≡ None) (sym z) (none 52 refl)
      ])
    ])
