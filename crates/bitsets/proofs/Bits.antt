-- Sets of small numbers in the bits of words.
use Rattle.std.proofs.Common.{◌≡◌, ℕ, ◌+◌, ◌*◌, ◌-◌, ◌%◌, ◌^◌, ◌<◌, ◌⊎◌, ◌↔◌, inl, inr, arith, bit_or, subst, sym}
use Rattle.std.proofs.lemmas.Bool.{cases_eq, cases_lt}
use Rattle.std.specs.Int.{Width, bit_at, bit_not, trailing_ones}
use Rattle.std.proofs.lemmas.Nat.{trailing_le}
use mir.Val.{bits}
use Rattle.std.proofs.lemmas.Nat.Bits.{bit_at_or, bit_at-lt, bit_at_ones, bit_at-zero, bit_at_set_same, bit_at_set_other, bit_at-trailing_ones}
use Rattle.bitsets.specs.Sets.{Has}

-- the union of two sets
pub has_or : (a b v : ℕ) → Has (bit_or a b) v ↔ (Has a v ⊎ Has b v)
has_or a b v = (
  (λ h. elim (cases_eq (bit_at a v) 1) [
    | inl e ↦ inl e
    | inr ne ↦ inr (omega (arith, h, bit_at_or a b v, bit_at-lt a v, bit_at-lt b v))
  ]),
  (λ c. elim c [
    | inl e ↦ omega (arith, e, bit_at_or a b v, bit_at-lt a v, bit_at-lt b v)
    | inr e ↦ omega (arith, e, bit_at_or a b v, bit_at-lt a v, bit_at-lt b v)
  ]),
)

-- the set of one number
pub has_one : (w : Width) (k v : ℕ) → k < bits w → Has (1 * 2 ^ k % 2 ^ bits w) v ↔ (v ≡ k)
has_one w k v within = (
  (λ h. elim (cases_eq v k) [
    | inl e ↦ e
    | inr ne ↦ absurd (omega (arith, h, bit_at_set_other w 0 k within v ne, bit_at-zero v))
  ]),
  (λ e. subst (λ x. Has (1 * 2 ^ k % 2 ^ bits w) x) (sym e) (bit_at_set_same w 0 k within)),
)

-- the least number that is not in a set
pub has_below : (w : Width) (set v : ℕ) → set < 2 ^ bits w → v < trailing_ones w set → Has set v
has_below w set v fits low = elim (cases_lt (set + 1) (2 ^ bits w)) [
  | inl less ↦ (bit_at-trailing_ones w set less).2 v low
  | inr all ↦
      let e : set ≡ 2 ^ bits w - 1 = omega arith in
      subst (λ x. Has x v) (sym e) (bit_at_ones (bits w) v (omega (arith, low, trailing_le (bits w) (bit_not w set))))
]

pub has_not : (w : Width) (set : ℕ) → trailing_ones w (2 ^ bits w - 1) ≡ bits w → set < 2 ^ bits w → trailing_ones w set < bits w → Has set (trailing_ones w set) → ⊥
has_not w set full fits small h = elim (cases_lt (set + 1) (2 ^ bits w)) [
  | inl less ↦ omega (arith, h, (bit_at-trailing_ones w set less).1)
  | inr all ↦
      let e : set ≡ 2 ^ bits w - 1 = omega arith in
      omega (arith, small, subst (λ x. trailing_ones w x ≡ bits w) (sym e) full)
]
