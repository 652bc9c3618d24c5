-- A game that follows another one.
use Rattle.std.proofs.Common.{◌≡◌, ℕ, zero, suc, ◌+◌, ◌-◌, ◌<◌, ◌≤◌, ◌⊎◌, ◌↔◌, ◌==◌, ◌∷◌, IsTrue, false, List, slice_index, bit_xor, inl, inr, sym, ap, ◌∙◌, subst, arith}
use Rattle.std.specs.Int.{bit_at}
use Rattle.std.specs.Int.Bits.{xor_zero_l}
use Rattle.std.proofs.lemmas.Bool.{cases_eq, cases_lt, false≢true}
use Rattle.std.proofs.lemmas.List.{get_or_past}
use Rattle.std.proofs.lemmas.Nat.Bits.{bit_at-zero}
use Rattle.oct_code.specs.Code.{Code, len, allows}
use Rattle.oct_mex.specs.Following.{Follows, HasOneHeap, SplitAlike}
use Rattle.oct_mex.specs.Marked.{IsLatePair}
use Rattle.oct_mex.specs.Marks.{IsOneHeapBy, IsOptionBy, heaps_left}
use Rattle.oct_mex.specs.Mex.{IsMex}
use Rattle.oct_mex.specs.NimValues.{IsOptionValue, nim_value, nim_values}
use Rattle.oct_mex.proofs.Marked.{option_value}
use Rattle.oct_mex.proofs.Marking.{one_heap_from, one_heap_to, option_of_pair}
use Rattle.oct_mex.proofs.Moves.{heaps_two, parts}
use Rattle.oct_mex.proofs.NimValues.{nim_sequence, nim_value-zero, option_agree}
use Rattle.oct_mex.proofs.Pushed.{value_at}

-- ---- digits

-- no digit beyond the last one allows anything
pub beyond : (c : Code) (r : ℕ) → len c < r → allows c r 2 ≡ false
beyond c r far = ap (λ d. bit_at d 2 == 1) (get_or_past (c.head ∷ c.digits) r 0 (omega arith)) ∙ ap (λ b. b == 1) (bit_at-zero 2)

pub split_few : (c : Code) (r : ℕ) → IsTrue (allows c r 2) → r ≤ len c
split_few c r may = elim (cases_lt (len c) r) [ inl far ↦ absurd (false≢true (sym (beyond c r far) ∙ may)) | inr le ↦ le ]

-- the digits before a place allow two heaps alike, and behind it there is none
pub split_all : (c d : Code) (end : ℕ) → len c < end → len d < end → ((r : ℕ) → r < end → allows c r 2 ≡ allows d r 2) → SplitAlike c d
split_all c d end few_c few_d all r = elim (cases_lt r end) [ inl l ↦ all r l | inr le ↦ beyond c r (omega arith) ∙ sym (beyond d r (omega arith)) ]

-- ---- options

-- an option leaves at most one heap, or two
pub option_parts : (c : Code) (g : ℕ → ℕ) (n v : ℕ) → IsOptionValue c g n v → HasOneHeap c g n v ⊎ IsLatePair c g n 1 v
option_parts c g n v o =
    let by : IsOptionBy c g n o.move.removed v = record { a = o.a; b = o.b; parts = parts c n o.a o.b o.move; is = o.is } in
    elim (cases_eq o.a 0) [ inl none ↦ inl (o.move.removed, (by, none)) | inr some ↦ inr (record { removed = o.move.removed; option = by; late = omega arith }) ]

pub one_option : (c : Code) (g : ℕ → ℕ) (n v : ℕ) → HasOneHeap c g n v → IsOptionValue c g n v
one_option c g n v o = option_value c g n o.0 v o.1.0

pub late_option : (c : Code) (g : ℕ → ℕ) (n v : ℕ) → IsLatePair c g n 1 v → IsOptionValue c g n v
late_option c g n v o = option_value c g n o.removed v o.option

-- a pair of one game is one of another that is split alike
pub pair_alike : (c d : Code) (g : ℕ → ℕ) (n v : ℕ) → SplitAlike c d → IsLatePair d g n 1 v → IsOptionValue c g n v
pair_alike c d g n v alike o =
    let p = o.option.parts in
    let may : IsTrue (allows c o.removed 2) = alike o.removed ∙ subst (λ h. IsTrue (allows d o.removed h)) (heaps_two o.option.a o.option.b o.late) p.allowed in
    option_value c g n o.removed v
    (option_of_pair c g n o.removed o.option.a o.option.b v (omega (arith, p.total)) (split_few c o.removed may) may o.late p.ordered (omega (arith, p.total)) o.option.is)

-- ---- the mex of the leader's options is the game's
module _ (c d : Code) (g : ℕ → ℕ) (n v : ℕ) (alike : SplitAlike c d) (mex : IsMex (IsOptionValue d g n) v) where
  pub led_mex : (HasOneHeap c g n v → ⊥) → ((w : ℕ) → w < v → HasOneHeap d g n w → IsOptionValue c g n w) → IsMex (IsOptionValue c g n) v
  led_mex not_one ones = record {
    excluded = λ o. elim (option_parts c g n v o) [ inl one ↦ not_one one | inr pair ↦ mex.excluded (pair_alike d c g n v (λ r. sym (alike r)) pair) ];
    below = λ w less. elim (option_parts d g n w (mex.below w less)) [ inl one ↦ ones w less one | inr pair ↦ pair_alike c d g n w alike pair ];
  }

-- ---- the option of at most one heap

-- its value is that of the heap that is left
pub one_heap_value : (c : Code) (g : ℕ → ℕ) (n r v : ℕ) → g 0 ≡ 0 → IsOneHeapBy c g n r v → v ≡ g (n - r)
one_heap_value c g n r v empty o = one_heap_from c g n r v o ∙ ap (λ x. bit_xor x (g (n - r))) empty ∙ xor_zero_l (g (n - r))

-- beans are removed
pub one_heap_some : (c : Code) (g : ℕ → ℕ) (n r v : ℕ) → IsOneHeapBy c g n r v → 1 ≤ r
one_heap_some c g n r v o = omega (arith, o.0.parts.total, o.0.parts.smaller, o.1)

-- its value may be told
pub one_heap_is : (c : Code) (g : ℕ → ℕ) (n r v : ℕ) → g 0 ≡ 0 → r ≤ n → 1 ≤ r → r ≤ len c → IsTrue (allows c r (heaps_left 0 (n - r))) → IsOneHeapBy c g n r v ↔ (v ≡ g (n - r))
one_heap_is c g n r v empty held some few allowed = (
  (λ o. one_heap_value c g n r v empty o),
  (λ e. one_heap_to c g n r v held some few allowed (e ∙ sym (ap (λ x. bit_xor x (g (n - r))) empty ∙ xor_zero_l (g (n - r))))),
)

-- ---- lists of nim-values

pub first_zero : (c : Code) (n : ℕ) (values : List ℕ) → values ≡ nim_values c n → slice_index values 0 ≡ 0
first_zero c zero values are = ap (λ xs. slice_index xs 0) are
first_zero c (suc n) values are = value_at c (suc n) 0 values are (omega arith) ∙ nim_value-zero c

-- the leader's value is the mex by the list of the follower
pub leader_mex : (c d : Code) (n : ℕ) (values : List ℕ) → values ≡ nim_values c n → Follows c d n → IsMex (IsOptionValue d (slice_index values) n) (nim_value d n)
leader_mex c d n values are follows =
    let mex = nim_sequence d n in
    let agree : (m : ℕ) → m < n → slice_index values m ≡ nim_value d m = λ m l. value_at c n m values are l ∙ follows.same m l in
    record {
      excluded = λ o. mex.excluded (option_agree d (slice_index values) (nim_value d) n agree (nim_value d n) o);
      below = λ w l. option_agree d (nim_value d) (slice_index values) n (λ m k. sym (agree m k)) w (mex.below w l);
    }

-- one heap more
pub follows_on : (c d : Code) (n : ℕ) → Follows c d n → nim_value c n ≡ nim_value d n → Follows c d (n + 1)
follows_on c d n follows next = record {
  splits = follows.splits;
  same = λ m l. elim (cases_eq m n) [ inl e ↦ subst (λ k. nim_value c k ≡ nim_value d k) (sym e) next | inr ne ↦ follows.same m (omega arith) ];
}
