-- What the exclusive or of numbers is, and what is below it.
use Rattle.std.proofs.Common.{◌≡◌, ℕ, ◌+◌, ◌/◌, ◌%◌, ◌<◌, sym, ap, ap₂, ◌∙◌, arith, ◌⊎◌, inl, inr, bit_xor}
use Rattle.std.specs.Int.Bits.{xor_assoc, xor_self, xor_zero_r}
use Rattle.std.proofs.lemmas.Bool.{cases_lt, cases_eq}
use Rattle.std.proofs.lemmas.Nat.{xor_comm, xor_shr}
use Rattle.std.proofs.lemmas.Nat.Bits.{bit_at_xor, bit_at_lowest}
use lib.Arith.{bin_ind}

pub xor_cancel_left : (a b : ℕ) → bit_xor a (bit_xor a b) ≡ b
xor_cancel_left a b = sym (xor_assoc a a b) ∙ ap (λ z. bit_xor z b) (xor_self a)

pub xor_cancel_right : (a b : ℕ) → bit_xor (bit_xor a b) b ≡ a
xor_cancel_right a b = xor_assoc a b b ∙ ap (bit_xor a) (xor_self b) ∙ xor_zero_r a

pub xor_cancel_outer : (a b : ℕ) → bit_xor (bit_xor a b) a ≡ b
xor_cancel_outer a b = ap (λ z. bit_xor z a) (xor_comm a b) ∙ xor_cancel_right b a

pub xor_left_comm : (a b c : ℕ) → bit_xor a (bit_xor b c) ≡ bit_xor b (bit_xor a c)
xor_left_comm a b c = sym (xor_assoc a b c) ∙ ap (λ z. bit_xor z c) (xor_comm a b) ∙ xor_assoc b a c

-- numbers whose exclusive or is 0 are equal
pub same_from_xor : (a b : ℕ) → bit_xor a b ≡ 0 → a ≡ b
same_from_xor a b h = sym (xor_cancel_right a b) ∙ ap (λ z. bit_xor z b) h

xor_half : (a b : ℕ) → bit_xor a b / 2 ≡ bit_xor (a / 2) (b / 2)
xor_half a b = xor_shr a b 1

xor_parity : (a b : ℕ) → bit_xor a b % 2 ≡ (a % 2 + b % 2) % 2
xor_parity a b = sym (bit_at_lowest (bit_xor a b)) ∙ bit_at_xor a b 0 ∙ ap₂ (λ x y. (x + y) % 2) (bit_at_lowest a) (bit_at_lowest b)

-- what is less than a xor b comes of one of the two, made less
pub below_xor : (a b w : ℕ) → w < bit_xor a b → (bit_xor w b < a) ⊎ (bit_xor w a < b)
below_xor = bin_ind (λ (a : ℕ). (b w : ℕ) → w < bit_xor a b → (bit_xor w b < a) ⊎ (bit_xor w a < b))
    (λ b w h. inr (rw xor_zero_r h))
    (λ a ih b w h.
    let top : bit_xor a b / 2 ≡ bit_xor (a / 2) (b / 2) = xor_half a b in
    let low = xor_parity a b in
    let top_b : bit_xor w b / 2 ≡ bit_xor (w / 2) (b / 2) = xor_half w b in
    let top_a : bit_xor w a / 2 ≡ bit_xor (w / 2) (a / 2) = xor_half w a in
    let low_b = xor_parity w b in
    let low_a = xor_parity w a in
    elim (cases_lt (w / 2) (bit_xor (a / 2) (b / 2))) [
      | inl less ↦ elim (ih (b / 2) (w / 2) less) [ inl l ↦ inl (omega arith) | inr r ↦ inr (omega arith) ]
      | inr same ↦
          let is : w / 2 ≡ bit_xor (a / 2) (b / 2) = omega arith in
          let to_a : bit_xor (w / 2) (b / 2) ≡ a / 2 = ap (λ z. bit_xor z (b / 2)) is ∙ xor_cancel_right (a / 2) (b / 2) in
          let to_b : bit_xor (w / 2) (a / 2) ≡ b / 2 = ap (λ z. bit_xor z (a / 2)) is ∙ xor_cancel_outer (a / 2) (b / 2) in
          elim (cases_eq (a % 2) 1) [ inl odd ↦ inl (omega arith) | inr even ↦ inr (omega arith) ]
    ])
