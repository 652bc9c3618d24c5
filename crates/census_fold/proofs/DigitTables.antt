-- A table of the values of all bytes as hexadecimal digits.
use Rattle.std.proofs.Common.{arith, ◌≡◌, ℕ, zero, suc, ◌<◌, ◌==◌, ◌&&◌, Bool, true, false, List, slice_index, if◌then◌else◌, Option, Some, None, eqb-true, sym, ap, ◌∙◌, inl, inr}
use Rattle.std.proofs.lemmas.Bool.{and_parts, cases_lt, true≢false}
use Rattle.hex.specs.Hex.{hex_digit_value}

-- what the table says of a byte, where 255 stands for none
abbrev said : ℕ → Option ℕ
said value = if value == 255 then None else Some value

abbrev are_same : Option ℕ → Option ℕ → Bool
are_same None None = true
are_same None (Some b) = false
are_same (Some a) None = false
are_same (Some a) (Some b) = a == b

-- it says so of the bytes below n, which computes
abbrev pub is_right_below : List ℕ → ℕ → Bool
is_right_below table zero = true
is_right_below table (suc n) = are_same (said (slice_index table n)) (hex_digit_value n) && is_right_below table n

same_is : (a b : Option ℕ) → are_same a b ≡ true → a ≡ b
same_is None None e = λ i. None
same_is None (Some b) e = absurd (true≢false (sym e))
same_is (Some a) None e = absurd (true≢false (sym e))
same_is (Some a) (Some b) e = ap Some (eqb-true a b e)

right_at : (table : List ℕ) (n c : ℕ) → is_right_below table n ≡ true → c < n → said (slice_index table c) ≡ hex_digit_value c
right_at table zero c right lt = absurd (omega arith)
right_at table (suc n) c right lt =
    let parts = and_parts (are_same (said (slice_index table n)) (hex_digit_value n)) (is_right_below table n) right in
    elim (cases_lt c n) [
      | inl below ↦ right_at table n c parts.1 below
      | inr top ↦ let e : c ≡ n = omega arith in rw e (same_is _ _ parts.0)
    ]

pub no_digit : (table : List ℕ) (c value : ℕ) → is_right_below table 256 ≡ true → c < 256 → value ≡ slice_index table c → value ≡ 255 → None ≡ hex_digit_value c
no_digit table c value right lt is none = (λ i. said ((sym none ∙ is) i)) ∙ right_at table 256 c right lt

said_unless : (value : ℕ) (b : Bool) → value == 255 ≡ b → (value ≡ 255 → ⊥) → Some value ≡ (if b then None else Some value)
said_unless value true e some = absurd (some (eqb-true value 255 e))
said_unless value false e some = λ i. Some value

pub a_digit : (table : List ℕ) (c value : ℕ) → is_right_below table 256 ≡ true → c < 256 → value ≡ slice_index table c → (value ≡ 255 → ⊥) → Some value ≡ hex_digit_value c
a_digit table c value right lt is some =
    said_unless value (value == 255) (λ i. value == 255) some ∙ (λ i. said (is i)) ∙ right_at table 256 c right lt
