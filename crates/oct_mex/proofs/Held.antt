-- The values of the small heaps and of the last ones settle the next.
use Rattle.std.proofs.Common.{◌≡◌, ℕ, ◌+◌, ◌-◌, ◌<◌, ◌≤◌, false, IsTrue, List, length, slice_index, bit_xor, inl, inr, refl, sym, ap, ap₂, ◌∙◌, subst, arith}
use Rattle.std.proofs.lemmas.Bool.{cases_Bool, cases_eq, cases_lt, false≢true}
use Rattle.std.specs.List.{Contains}
use Rattle.oct_code.specs.Code.{Code, allows}
use Rattle.oct_mex.specs.Marks.{IsOptionBy, IsTableFor}
use Rattle.oct_mex.specs.NimValues.{nim_value, IsOptionValue}
use Rattle.oct_mex.specs.Rare.{is_rare, IsFit, ListsRare}
use Rattle.oct_mex.specs.Windows.{IsHeld, IsNear, IsReached, IsSettled, Settles, window}
use Rattle.oct_mex.specs.declared.mask.Mask.{Mask}
use Rattle.oct_mex.proofs.Marking.{xor_within}
use Rattle.oct_mex.proofs.Mex.{mex_unique}
use Rattle.oct_mex.proofs.Moves.{heaps_left_grown, move_of, parts}
use Rattle.oct_mex.proofs.NimValues.{nim_sequence}
use Rattle.oct_mex.proofs.Windows.{common_pair}

module _ (c : Code) (mask : Mask) (reach n : ℕ) (held : List ℕ) (is_held : IsHeld c reach n held) where
  abbrev g : ℕ → ℕ
  g = nim_value c

  -- a near option of the list is one of the heap
  module _ (heaps : List ℕ) (few : (h : ℕ) → Contains heaps h → h ≤ reach) where
    small_of : (v : ℕ) (o : IsNear c (slice_index held) (length held) heaps reach v) → o.option.a ≤ reach
    small_of v o =
        let p = parts c (length held) o.option.a o.option.b o.option.move in
        elim o.near [
          | inl small ↦ small
          | inr listed ↦ elim listed [ inl first ↦ few o.option.a first | inr second ↦ let least = few o.option.b second in omega (arith, p.ordered) ]
        ]

    up : (v : ℕ) → IsNear c (slice_index held) (length held) heaps reach v → IsReached c reach n v
    up v o =
        let p = parts c (length held) o.option.a o.option.b o.option.move in
        let small = small_of v o in
        let room = is_held.room in
        let fits = is_held.few in
        let b = o.option.b + (n - length held) in
        let low : b < n = omega (arith, p.smaller) in
        let high : n ≤ b + window c reach = omega (arith, p.total, p.few) in
        let place : b + length held - n ≡ o.option.b = omega arith in
        let filled : 1 ≤ o.option.b = omega (arith, p.total, p.few) in (
          record {
            a = o.option.a;
            b = b;
            move = move_of c n o.option.move.removed o.option.a b (record {
              ordered = omega (arith, p.ordered);
              total = omega (arith, p.total);
              smaller = low;
              few = p.few;
              allowed = subst (λ h. IsTrue (allows c o.option.move.removed h)) (sym (heaps_left_grown o.option.a o.option.b b filled (omega arith))) p.allowed;
            });
            is = o.option.is ∙ ap₂ bit_xor (is_held.small o.option.a small) (sym (ap (slice_index held) place) ∙ is_held.last b low high);
          },
          small,
        )

  -- an option of the heap that leaves a small one is one of the list
  module _ (v : ℕ) (o : IsOptionValue c g n v) (small : o.a ≤ reach) where
    down : (d : IsOptionBy c (slice_index held) (length held) o.move.removed v) × (d.a ≡ o.a) × (d.b < length held)
    down =
        let p = parts c n o.a o.b o.move in
        let room = is_held.room in
        let fits = is_held.few in
        let b = o.b + length held - n in
        let high : n ≤ o.b + window c reach = omega (arith, p.total, p.few) in
        let low : b < length held = omega (arith, p.smaller) in
        let filled : 1 ≤ b = omega arith in
        let larger : reach ≤ b = omega arith in (
          record {
            a = o.a;
            b = b;
            parts = record {
              ordered = omega arith;
              total = omega (arith, p.total, p.few);
              smaller = low;
              few = p.few;
              allowed = subst (λ h. IsTrue (allows c o.move.removed h)) (heaps_left_grown o.a b o.b filled (omega (arith, p.total, p.few))) p.allowed;
            };
            is = o.is ∙ ap₂ bit_xor (sym (is_held.small o.a small)) (sym (is_held.last o.b p.smaller high));
          },
          refl,
          low,
        )

module _ (c : Code) (mask : Mask) (reach n size v : ℕ) (held heaps : List ℕ) (is_held : IsHeld c reach n held) (fit : IsFit c mask) (some : 0 < mask.bits)
    (rare : ListsRare mask held (reach + 1) heaps) (few : (h : ℕ) → Contains heaps h → h ≤ reach) (table : IsTableFor held size)
    (common : (h : ℕ) → reach < h → h < n → is_rare mask h (nim_value c h) ≡ false) (not_rare : is_rare mask n v ≡ false)
    (settles : Settles c (slice_index held) (length held) heaps reach size v) where
  -- no option has the value
  excluded_near : (o : IsOptionValue c (nim_value c) n v) → o.a ≤ reach → ⊥
  excluded_near o small =
      let p = parts c n o.a o.b o.move in
      let room = is_held.room in
      let fits = is_held.few in
      let d = down c mask reach n held is_held v o small in
      let first : d.0.a < length held = omega (arith, d.1) in
      let low : v < size = rw d.0.is (xor_within held size d.0.a d.0.b table first d.2) in
      settles.unlisted low o.move.removed (
        d.0,
        elim (cases_eq o.a 0) [
          | inl none ↦ inl (d.1 ∙ none)
          | inr filled ↦ inr (elim (cases_Bool (is_rare mask o.a (nim_value c o.a))) [
            | inl is ↦ inl (subst (Contains heaps) (sym d.1) (rare some o.a (omega arith) (omega arith) (ap (is_rare mask o.a) (is_held.small o.a small) ∙ is)))
            | inr not_a ↦ absurd (false≢true (sym not_rare ∙ common_pair c mask n v fit o (omega arith) not_a (common o.b (omega (arith, p.total, p.few)) p.smaller)))
          ])
        ],
      )

  excluded : IsOptionValue c (nim_value c) n v → ⊥
  excluded o =
      let p = parts c n o.a o.b o.move in
      elim (cases_lt reach o.a) [
        | inr small ↦ excluded_near o small
        | inl far ↦ false≢true (sym not_rare ∙ common_pair c mask n v fit o (omega arith) (common o.a far (omega (arith, p.ordered, p.smaller))) (common o.b (omega (arith, p.ordered)) p.smaller))
      ]

  reached : (u : ℕ) → u < v → IsReached c reach n u
  reached u less = up c mask reach n held is_held heaps few u (settles.reached u less)

  -- it is the nim-value, and the heap is settled
  pub held_value : (v ≡ nim_value c n) × IsSettled c mask reach n
  held_value =
      let is : v ≡ nim_value c n = mex_unique (IsOptionValue c (nim_value c) n) (IsOptionValue c (nim_value c) n) v (nim_value c n)
      (record { excluded = excluded; below = λ u less. (reached u less).0 }) (nim_sequence c n) (λ w o. o) (λ w o. o) in
      (is, record { common = subst (λ w. is_rare mask n w ≡ false) is not_rare; reached = λ u less. reached u (subst (λ w. u < w) (sym is) less) })
