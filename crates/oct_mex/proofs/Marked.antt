-- What a table of marks has on the way to the mex.
use Rattle.std.proofs.Common.{◌≡◌, ℕ, ◌+◌, ◌%◌, ◌<◌, ◌≤◌, ◌⊎◌, ◌==◌, if◌then◌else◌, IsTrue, Bool, true, false, List, length, min, replicate, slice_index, bit_and, bit_xor, count_ones, inl, inr, refl, sym, ap, ◌∙◌, subst, arith}
use Rattle.std.specs.List.{Contains}
use Rattle.std.proofs.lemmas.Bool.{cases_Bool, cases_eq, cases_lt, eq-eqb, false≢true}
use Rattle.std.proofs.Math.ListN.{get_or-replicate, length-replicate}
use Rattle.oct_code.specs.Code.{Code, len, allows}
use Rattle.oct_mex.specs.Marks.{AddsMarks, IsBelow, IsMarked, IsOptionBy, IsPairBy, IsRareBy, IsTableFor}
use Rattle.oct_mex.specs.Mex.{IsMex}
use Rattle.oct_mex.specs.NimValues.{IsOptionValue}
use Rattle.oct_mex.proofs.Marking.{xor_within}
use Rattle.oct_mex.proofs.Moves.{heaps_two, move_of, parts}
use Rattle.oct_mex.proofs.Parity.{xor_even}
use Rattle.oct_mex.specs.declared.mask.Mask.{Mask}
use Rattle.oct_mex.specs.Marked.{HasMarked}
use Rattle.oct_mex.specs.Rare.{is_rare, IsFit, ListsRare}

-- ---- rare and common heaps

odd : (n : ℕ) → ((n % 2) == 0) ≡ false → n % 2 ≡ 1
odd n common = elim (cases_eq (n % 2) 0) [ inl even ↦ absurd (false≢true (sym common ∙ eq-eqb (n % 2) 0 even)) | inr other ↦ omega arith ]

-- two common heaps and what was removed: the bits of their values x and y, those of the exclusive or z, and the beans where the parity counts
pub class_even : (parity : Bool) (turn n r a b x y z : ℕ) → (parity ≡ true → r % 2 ≡ turn % 2) → r + (a + b) ≡ n → (z + x + y) % 2 ≡ 0
    → (((x + (if parity then a + turn else 0)) % 2) == 0) ≡ false → (((y + (if parity then b + turn else 0)) % 2) == 0) ≡ false
    → (((z + (if parity then n + turn else 0)) % 2) == 0) ≡ true
class_even true turn n r a b x y z same total even p q = eq-eqb ((z + (n + turn)) % 2) 0 (omega (arith, same refl, odd (x + (a + turn)) p, odd (y + (b + turn)) q))
class_even false turn n r a b x y z same total even p q = eq-eqb ((z + 0) % 2) 0 (omega (arith, odd (x + 0) p, odd (y + 0) q))

-- an option of two heaps whose value is common at this heap has a listed heap
pub settled_listed : (c : Code) (values : List ℕ) (n : ℕ) (mask : Mask) (heaps : List ℕ) (v r : ℕ) → IsFit c mask → ListsRare mask values n heaps
    → 0 < mask.bits → is_rare mask n v ≡ false → (o : IsOptionBy c (slice_index values) n r v) → 1 ≤ o.a
    → Contains heaps o.a ⊎ Contains heaps o.b
settled_listed c values n mask heaps v r fit listed some common o first =
    let g = slice_index values in
    let allowed : IsTrue (allows c r 2) = subst (λ h. IsTrue (allows c r h)) (heaps_two o.a o.b first) o.parts.allowed in
    elim (cases_Bool (is_rare mask o.a (g o.a))) [
      | inl rare ↦ inl (listed some o.a first (omega (arith, o.parts.ordered, o.parts.smaller)) rare)
      | inr not_a ↦ elim (cases_Bool (is_rare mask o.b (g o.b))) [
        | inl rare ↦ inr (listed some o.b (omega (arith, o.parts.ordered)) o.parts.smaller rare)
        | inr not_b ↦ absurd (false≢true (sym common ∙ ap (is_rare mask n) o.is
            ∙ class_even mask.parity mask.turn n r o.a o.b (count_ones (bit_and mask.bits (g o.a))) (count_ones (bit_and mask.bits (g o.b))) (count_ones (bit_and mask.bits (bit_xor (g o.a) (g o.b))))
            (λ counts. fit counts r o.parts.few allowed) o.parts.total (xor_even mask.bits (g o.a) (g o.b)) not_a not_b))
      ]
    ]

-- ---- the table

pub few_removed : (c : Code) (g : ℕ → ℕ) (n r v : ℕ) → IsOptionBy c g n r v → r < min (len c) n + 1
few_removed c g n r v o = omega (arith, o.parts.few, o.parts.total)

pub option_value : (c : Code) (g : ℕ → ℕ) (n r v : ℕ) → IsOptionBy c g n r v → IsOptionValue c g n v
option_value c g n r v o = record { a = o.a; b = o.b; move = move_of c n r o.a o.b o.parts; is = o.is }

-- the options of at most one heap or of a listed heap are marked first
pub marked_first : (c : Code) (g : ℕ → ℕ) (n : ℕ) (heaps : List ℕ) (size : ℕ) (marks : List Bool)
    → AddsMarks (replicate size false) marks (IsBelow (IsRareBy c g n heaps) (min (len c) n + 1)) → HasMarked c g n heaps 1 marks
marked_first c g n heaps size marks adds =
    let sized : length marks ≡ size = adds.size ∙ length-replicate size false in
    let same : length (replicate size false) ≡ size = length-replicate size false in
    record {
      sound = λ v l m. elim ((adds.marked v (omega arith)).0 m) [
        | inl old ↦ absurd (false≢true (sym (get_or-replicate size v false false (omega arith)) ∙ old))
        | inr o ↦ option_value c g n o.0 v o.2.0
      ];
      listed = λ v r l o. (adds.marked v (omega arith)).1 (inr (r, few_removed c g n r v o.0, o));
      pairs = λ v r l o. absurd (omega (arith, o.1, o.2));
    }

-- then a round of pairs
pub marked_round : (c : Code) (g : ℕ → ℕ) (n : ℕ) (heaps : List ℕ) (end next : ℕ) (x y : List Bool) → HasMarked c g n heaps end x
    → AddsMarks x y (IsBelow (IsPairBy c g n end next) (min (len c) n + 1)) → HasMarked c g n heaps next y
marked_round c g n heaps end next x y has adds =
    let size : length y ≡ length x = adds.size in
    record {
      sound = λ v l m. elim ((adds.marked v (omega arith)).0 m) [ inl old ↦ has.sound v (omega arith) old | inr o ↦ option_value c g n o.0 v o.2.0 ];
      listed = λ v r l o. (adds.marked v (omega arith)).1 (inl (has.listed v r (omega arith) o));
      pairs = λ v r l o. (adds.marked v (omega arith)).1 (elim (cases_lt o.0.a end) [
        | inl low ↦ inl (has.pairs v r (omega arith) (o.0, o.1, low))
        | inr high ↦ inr (r, few_removed c g n r v o.0, (o.0, high, o.2))
      ]);
    }

-- or a value of an option
pub marked_value : (c : Code) (g : ℕ → ℕ) (n : ℕ) (heaps : List ℕ) (end v : ℕ) (x y : List Bool) → HasMarked c g n heaps end x → IsOptionValue c g n v
    → AddsMarks x y (λ w. w ≡ v) → HasMarked c g n heaps end y
marked_value c g n heaps end v x y has option adds =
    let size : length y ≡ length x = adds.size in
    record {
      sound = λ w l m. elim ((adds.marked w (omega arith)).0 m) [ inl old ↦ has.sound w (omega arith) old | inr e ↦ subst (IsOptionValue c g n) (sym e) option ];
      listed = λ w r l o. (adds.marked w (omega arith)).1 (inl (has.listed w r (omega arith) o));
      pairs = λ w r l o. (adds.marked w (omega arith)).1 (inl (has.pairs w r (omega arith) o));
    }

-- the first value that is not marked is the mex, if each option of two heaps that has it would be marked
pub marked_mex : (c : Code) (values heaps : List ℕ) (n end m : ℕ) (marks : List Bool) → length values ≡ n → IsTableFor values (length marks)
    → HasMarked c (slice_index values) n heaps end marks
    → m ≤ length marks → ((v : ℕ) → v < m → IsMarked marks v) → (m < length marks → IsMarked marks m → ⊥)
    → (m < length marks → (r : ℕ) (o : IsOptionBy c (slice_index values) n r m) → 1 ≤ o.a → (Contains heaps o.a ⊎ Contains heaps o.b) ⊎ (o.a < end))
    → IsMex (IsOptionValue c (slice_index values) n) m
marked_mex c values heaps n end m marks size table has within low none enough = record {
  excluded = λ o.
      let r = o.move.removed in
      let p = parts c n o.a o.b o.move in
      let by : IsOptionBy c (slice_index values) n r m = record { a = o.a; b = o.b; parts = p; is = o.is } in
      let inside : m < length marks = rw o.is (xor_within values (length marks) o.a o.b table (omega (arith, size, p.ordered, p.smaller)) (omega (arith, size, p.smaller))) in
      none inside (elim (cases_eq o.a 0) [
        | inl zero ↦ has.listed m r inside (by, inl zero)
        | inr some ↦ elim (enough inside r by (omega arith)) [ inl listed ↦ has.listed m r inside (by, inr listed) | inr early ↦ has.pairs m r inside (by, omega arith, early) ]
      ]);
  below = λ v l. has.sound v (omega arith) (low v l);
}
