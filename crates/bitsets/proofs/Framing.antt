-- Sets whose numbers are turned by the bits of a number.
use Rattle.std.proofs.Common.{List, Bool, true, slice_index, ◌≡◌, ℕ, ◌+◌, ◌-◌, ◌*◌, ◌/◌, ◌%◌, ◌^◌, ◌<◌, ◌≤◌, ◌⊎◌, ◌↔◌, ◌&&◌, ◌||◌, nat_eq, inl, inr, arith, bit_xor, subst, sym, ◌∙◌, refl, ap}
use Rattle.std.proofs.lemmas.Bool.{cases_eq, eqb-true}
use Rattle.std.proofs.lemmas.Nat.{xor_comm, xor_lt}
use Rattle.std.proofs.Math.Nat.{div-eq_of_lt}
use Rattle.std.proofs.Math.Pow.{pow-lt, pow_mono}
use Rattle.std.specs.Int.Bits.{xor_assoc, xor_self, xor_zero_r}
use Rattle.bitsets.specs.Sets.{AddsSmall, Has, IsMadeBehind}
use Rattle.bitsets.proofs.Turned.{all_below, and_both, at_below, or_cases}

-- the number, without its first k bits
abbrev pub above : ℕ → ℕ → ℕ
above k x = x / 2 ^ k * 2 ^ k

pub above_none : (k x : ℕ) → x < 2 ^ k → above k x ≡ 0
above_none k x small = ap (λ q. q * 2 ^ k) (div-eq_of_lt small) ∙ omega arith

pub above_all : (x : ℕ) → above 0 x ≡ x
above_all x = omega arith

abbrev is_next : ℕ → ℕ → Bool
is_next k x =
    (nat_eq (x / 2 ^ k % 2) 1 && nat_eq (above k x) (bit_xor (above (k + 1) x) (2 ^ k)))
    || (nat_eq (x / 2 ^ k % 2) 0 && nat_eq (above k x) (above (k + 1) x))

all_next : all_below (λ k. all_below (is_next k) 64) 6 ≡ true
all_next = refl

-- one more bit of a number
pub next_bit : (x k : ℕ) → x < 64 → k < 6 → ((x / 2 ^ k % 2 ≡ 1) × (above k x ≡ bit_xor (above (k + 1) x) (2 ^ k))) ⊎ ((x / 2 ^ k % 2 ≡ 0) × (above k x ≡ above (k + 1) x))
next_bit x k small few =
    let is : is_next k x ≡ true = at_below (is_next k) 64 (at_below (λ j. all_below (is_next j) 64) 6 all_next k few) x small in
    let one = nat_eq (x / 2 ^ k % 2) 1 in
    let one_is = nat_eq (above k x) (bit_xor (above (k + 1) x) (2 ^ k)) in
    let none = nat_eq (x / 2 ^ k % 2) 0 in
    let none_is = nat_eq (above k x) (above (k + 1) x) in
    elim (or_cases (one && one_is) (none && none_is) is) [
      | inl e ↦ let b = and_both one one_is e in inl (eqb-true (x / 2 ^ k % 2) 1 b.0, eqb-true (above k x) (bit_xor (above (k + 1) x) (2 ^ k)) b.1)
      | inr e ↦ let b = and_both none none_is e in inr (eqb-true (x / 2 ^ k % 2) 0 b.0, eqb-true (above k x) (above (k + 1) x) b.1)
    ]

-- a number of few bits
pub is_small : (d x : ℕ) → d ≤ 6 → x < 2 ^ d → x < 64
is_small d x few small = let most : 2 ^ d ≤ 2 ^ 6 = pow_mono few in omega (arith, small, most)

-- a set that is turned by no bit yet
pub turned_none : (set v x : ℕ) → x ≡ 0 → Has set v ↔ Has set (bit_xor v x)
turned_none set v x none =
    let same : bit_xor v x ≡ v = ap (bit_xor v) none ∙ xor_zero_r v in
    ((λ h. subst (Has set) (sym same) h), (λ h. subst (Has set) same h))

-- a set that is turned by one more bit
pub turned_more : (d old mid new x y k v : ℕ) → k < d → v < 2 ^ d → y ≡ bit_xor x (2 ^ k)
    → ((u : ℕ) → u < 2 ^ d → Has mid u ↔ Has old (bit_xor u x)) → Has new v ↔ Has mid (bit_xor v (2 ^ k)) → Has new v ↔ Has old (bit_xor v y)
turned_more d old mid new x y k v few small e inner outer =
    let u = bit_xor v (2 ^ k) in
    let in_mid = inner u (xor_lt d v (2 ^ k) small (pow-lt few)) in
    let same : bit_xor u x ≡ bit_xor v y = xor_assoc v (2 ^ k) x ∙ ap (bit_xor v) (xor_comm (2 ^ k) x ∙ sym e) in
    ((λ h. subst (Has old) same (in_mid.0 (outer.0 h))), (λ h. outer.1 (in_mid.1 (subst (Has old) (sym same) h))))

pub twice : (v f : ℕ) → bit_xor (bit_xor v f) f ≡ v
twice v f = xor_assoc v f f ∙ ap (bit_xor v) (xor_self f) ∙ xor_zero_r v

reframed : (v f g : ℕ) → bit_xor (bit_xor v (bit_xor f g)) f ≡ bit_xor v g
reframed v f g = xor_assoc v (bit_xor f g) f ∙ ap (bit_xor v) (ap (λ y. bit_xor y f) (xor_comm f g) ∙ twice g f)

module _ (d : ℕ) (sets : List ℕ) (place : ℕ) (offsets values : List ℕ) where
  -- in the frame f, the set has what it had, and what the first steps make
  abbrev pub InFrame : ℕ → ℕ → ℕ → ℕ → Type 0
  InFrame old set f end = (v : ℕ) → v < 2 ^ d → Has set v ↔ (Has old (bit_xor v f) ⊎ IsMadeBehind sets place offsets values end (bit_xor v f))

  pub frame_first : (old : ℕ) → InFrame old old 0 0
  frame_first old v small = (
    (λ h. inl (subst (Has old) (sym (xor_zero_r v)) h)),
    (λ c. elim c [ inl h ↦ subst (Has old) (xor_zero_r v) h | inr m ↦ absurd (omega (arith, m.within)) ]),
  )

  -- from one frame to another
  pub frame_turned : (old set new f g end : ℕ) → f < 2 ^ d → g < 2 ^ d → InFrame old set f end → ((v : ℕ) → v < 2 ^ d → Has new v ↔ Has set (bit_xor v (bit_xor f g))) → InFrame old new g end
  frame_turned old set new f g end small_f small_g in_f turned v small =
      let u = bit_xor v (bit_xor f g) in
      let inner = in_f u (xor_lt d v (bit_xor f g) small (xor_lt d f g small_f small_g)) in
      let back = λ (P : ℕ → Type 0). (λ (h : P (bit_xor u f)). subst P (reframed v f g) h) in
      let forth = λ (P : ℕ → Type 0). (λ (h : P (bit_xor v g)). subst P (sym (reframed v f g)) h) in
      let made = IsMadeBehind sets place offsets values end in (
        (λ h. elim (inner.0 ((turned v small).0 h)) [ inl o ↦ inl (back (Has old) o) | inr m ↦ inr (back made m) ]),
        (λ c. (turned v small).1 (inner.1 (elim c [ inl o ↦ inl (forth (Has old) o) | inr m ↦ inr (forth made m) ]))),
      )

  -- one more step, in the frame of its value
  pub frame_more : (old set new g at : ℕ) → slice_index values at ≡ g → InFrame old set g at → ((v : ℕ) → Has new v ↔ (Has set v ⊎ Has (slice_index sets (place - slice_index offsets at)) v)) → InFrame old new g (at + 1)
  frame_more old set new g at is in_g added v small =
      let here = Has (slice_index sets (place - slice_index offsets at)) in
      let same : bit_xor (bit_xor v g) (slice_index values at) ≡ v = ap (bit_xor (bit_xor v g)) is ∙ twice v g in (
        (λ h. elim ((added v).0 h) [
          | inl s ↦ elim ((in_g v small).0 s) [ inl o ↦ inl o | inr m ↦ inr (record { at = m.at; within = omega (arith, m.within); has = m.has }) ]
          | inr b ↦ inr (record { at = at; within = omega arith; has = subst here (sym same) b })
        ]),
        (λ c. (added v).1 (elim c [
          | inl o ↦ inl ((in_g v small).1 (inl o))
          | inr m ↦ elim (cases_eq m.at at) [
            | inl e ↦ inr (subst here same (subst (λ k. Has (slice_index sets (place - slice_index offsets k)) (bit_xor (bit_xor v g) (slice_index values k))) e m.has))
            | inr ne ↦ inl ((in_g v small).1 (inr (record { at = m.at; within = omega (arith, m.within, ne); has = m.has })))
          ]
        ])),
      )

  -- back in the frame 0
  pub frame_last : (old set new f end : ℕ) → f < 2 ^ d → InFrame old set f end → ((v : ℕ) → v < 2 ^ d → Has new v ↔ Has set (bit_xor v f)) → AddsSmall d old new (IsMadeBehind sets place offsets values end)
  frame_last old set new f end small_f in_f turned v small =
      let inner = in_f (bit_xor v f) (xor_lt d v f small small_f) in
      let made = IsMadeBehind sets place offsets values end in (
        (λ h. elim (inner.0 ((turned v small).0 h)) [ inl o ↦ inl (subst (Has old) (twice v f) o) | inr m ↦ inr (subst made (twice v f) m) ]),
        (λ c. (turned v small).1 (inner.1 (elim c [ inl o ↦ inl (subst (Has old) (sym (twice v f)) o) | inr m ↦ inr (subst made (sym (twice v f)) m) ]))),
      )
