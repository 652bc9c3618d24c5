-- The values that a window has, with a further one, and without those in the middle.
use Rattle.std.proofs.Common.{◌≡◌, ℕ, ◌+◌, ◌-◌, ◌<◌, ◌≤◌, ◌++◌, ◌∷◌, ◌*◌, ◌^◌, [], suc, Bool, false, List, length, map, take, drop, eqb, IsTrue, ◌↔◌, slice_index, sym, subst, ap, ◌∙◌, inl, inr, arith, length-append, length-drop, pow_mono}
use Rattle.std.specs.Bool.{Decides}
use Rattle.std.specs.Cmp.Lexicographic.{pointwise}
use Rattle.std.proofs.lemmas.Bool.Decides.{Decides-eqb}
use Rattle.std.proofs.lemmas.Slice.Eq.{slice_eq-Decides}
use Rattle.std.proofs.Math.Nat.{pow-suc}
use Rattle.std.proofs.lemmas.Bool.{cases_eq, cases_lt}
use Rattle.std.proofs.lemmas.List.{ext_get_or, get_or-drop, get_or_default, length-take-le, map-id}
use Rattle.std.proofs.lemmas.List.Elements.{Contains-get_or}
use Rattle.std.specs.List.{Contains}
use Rattle.oct_code.specs.Code.{Code}
use Rattle.oct_mex.specs.Marks.{IsTableFor}
use Rattle.oct_mex.specs.NimValues.{nim_value}
use Rattle.oct_mex.specs.Rare.{AreBeside, is_rare, IsFit, ListsRare}
use Rattle.oct_mex.specs.Windows.{IsHeld, IsSettled, Settles, window}
use Rattle.oct_mex.specs.declared.mask.Mask.{Mask}
use Rattle.oct_mex.proofs.Held.{held_value}
use Rattle.oct_mex.proofs.NimValues.{get-before, get-end}

-- with the next value
pub held_more : (c : Code) (reach n v : ℕ) (held : List ℕ) → IsHeld c reach n held → v ≡ nim_value c n → IsHeld c reach (n + 1) (held ++ v ∷ [])
held_more c reach n v held is_held is =
    let more : length (held ++ v ∷ []) ≡ length held + 1 = omega (arith, length-append held (v ∷ [])) in
    let room = is_held.room in
    let fits = is_held.few in
    record {
      room = omega arith;
      few = omega arith;
      small = λ h low. get-before held (v ∷ []) h (omega arith) ∙ is_held.small h low;
      last = λ h less near.
          let at : h + length (held ++ v ∷ []) - (n + 1) ≡ h + length held - n = omega arith in
          ap (slice_index (held ++ v ∷ [])) at ∙ elim (cases_lt h n) [
            | inl below ↦ get-before held (v ∷ []) (h + length held - n) (omega arith) ∙ is_held.last h below (omega arith)
            | inr above ↦
                let same : h ≡ n = omega arith in
                get-end held v (h + length held - n) (omega arith) ∙ is ∙ ap (nim_value c) (sym same)
          ];
    }

pub rare_more : (mask : Mask) (reach : ℕ) (held : List ℕ) (v : ℕ) (heaps : List ℕ) → reach < length held → ListsRare mask held (reach + 1) heaps → ListsRare mask (held ++ v ∷ []) (reach + 1) heaps
rare_more mask reach held v heaps few listed some a low high rare = listed some a low high (sym (ap (is_rare mask a) (get-before held (v ∷ []) a (omega arith))) ∙ rare)

-- where the values of the small heaps and of the last ones stay
pub held_less : (c : Code) (reach n : ℕ) (held less : List ℕ) → IsHeld c reach n held → length less ≡ reach + 1 + window c reach
    → ((i : ℕ) → i < reach + 1 → slice_index less i ≡ slice_index held i)
    → ((i : ℕ) → i < window c reach → slice_index less (reach + 1 + i) ≡ slice_index held (length held - window c reach + i))
    → IsHeld c reach n less
held_less c reach n held less is_held size first last =
    let room = is_held.room in
    let fits = is_held.few in
    record {
      room = omega arith;
      few = omega arith;
      small = λ h low. first h (omega arith) ∙ is_held.small h low;
      last = λ h below near.
          let i = h + window c reach - n in
          let here : h + length less - n ≡ reach + 1 + i = omega arith in
          let there : length held - window c reach + i ≡ h + length held - n = omega arith in
          ap (slice_index less) here ∙ last i (omega arith) ∙ ap (slice_index held) there ∙ is_held.last h below near;
    }

-- each heap behind the reach is common, the last one too
pub common_more : (c : Code) (mask : Mask) (reach n v : ℕ) → ((h : ℕ) → reach < h → h < n → is_rare mask h (nim_value c h) ≡ false) → v ≡ nim_value c n → is_rare mask n v ≡ false
    → (h : ℕ) → reach < h → h < n + 1 → is_rare mask h (nim_value c h) ≡ false
common_more c mask reach n v common is not_rare h far low = elim (cases_eq h n) [
  | inl e ↦ subst (λ k. is_rare mask k (nim_value c k) ≡ false) (sym e) (subst (λ w. is_rare mask n w ≡ false) is not_rare)
  | inr ne ↦ common h far (omega arith)
]

-- a power of two below 2 ^ 16 is half of one up to it
pub twice_small : (bits n : ℕ) → n ≡ 2 ^ bits → n < 2 ^ 16 → n * 2 ≤ 2 ^ 16
twice_small bits n is low = elim (cases_lt bits 16) [
  | inl less ↦
      let double : 2 ^ (bits + 1) ≡ 2 ^ bits * 2 = ap (λ m. 2 ^ m) (let e : bits + 1 ≡ suc bits = omega arith in e) ∙ pow-suc 2 bits in
      omega (arith, double, pow_mono {i = bits + 1} {j = 16} (omega arith))
  | inr more ↦ absurd (let least = pow_mono {i = 16} {j = bits} more in omega arith)
]

-- ---- the shape

module _ (held less : List ℕ) (n : ℕ) (few : n ≤ length held) (longer : n ≤ length less) (first : (i : ℕ) → i < n → slice_index less i ≡ slice_index held i) where
  -- what stands beside heaps below n
  pub beside_less : (heaps beside : List ℕ) → ((h : ℕ) → Contains heaps h → h < n) → AreBeside held heaps beside → AreBeside less heaps beside
  beside_less heaps beside low are = record {
    size = are.size;
    within = λ i in_list. omega (arith, low (slice_index heaps i) (Contains-get_or heaps i 0 in_list));
    each = λ i in_list. are.each i in_list ∙ sym (first (slice_index heaps i) (low (slice_index heaps i) (Contains-get_or heaps i 0 in_list)));
  }

  -- the rare heaps below n
  pub rare_less : (mask : Mask) (heaps : List ℕ) → ListsRare mask held n heaps → ListsRare mask less n heaps
  rare_less mask heaps listed some a low high rare = listed some a low high (sym (ap (is_rare mask a) (first a high)) ∙ rare)

  -- a table serves, where the further values are of the list
  pub table_less : (from size : ℕ) → ((i : ℕ) → n + i < length less → slice_index less (n + i) ≡ slice_index held (from + i)) → (from + length less ≤ length held + n)
      → IsTableFor held size → IsTableFor less size
  table_less from size last within table = record {
    bits = table.bits;
    power = table.power;
    small = λ i d low. rw (get_or_default less i d 0 low) (elim (cases_lt i n) [
      | inl near ↦ rw (first i near) (table.small i 0 (omega arith))
      | inr far ↦
          let at : n + (i - n) ≡ i = omega arith in
          rw (← at) (rw (last (i - n) (omega arith)) (table.small (from + (i - n)) 0 (omega arith)))
    ]);
  }

-- ---- the next value

-- what settles it, in cells that are numbers themselves, and in the first marks
pub told : (c : Code) (mask : Mask) (reach n used v : ℕ) (cells held heaps : List ℕ) (marks : List Bool) → cells ≡ held → used ≤ length marks
    → IsHeld c reach n held → IsFit c mask → 0 < mask.bits → ListsRare mask held (reach + 1) heaps → ((h : ℕ) → Contains heaps h → h ≤ reach) → IsTableFor held used
    → ((h : ℕ) → reach < h → h < n → is_rare mask h (nim_value c h) ≡ false) → is_rare mask n v ≡ false
    → Settles c (slice_index (map (λ x. x) cells)) (length cells) heaps reach (length (take used marks)) v → (v ≡ nim_value c n) × IsSettled c mask reach n
told c mask reach n used v cells held heaps marks are few_used is_held fit some rare few table common not_rare settles =
    let all : map (λ x. x) cells ≡ cells = map-id cells in
    let sized = subst (λ size. Settles c (slice_index (map (λ x. x) cells)) (length cells) heaps reach size v) (length-take-le used marks few_used) settles in
    let plain = subst (λ xs. Settles c (slice_index xs) (length cells) heaps reach used v) all sized in
    held_value c mask reach n used v held heaps is_held fit some rare few table common not_rare
    (subst (λ xs. Settles c (slice_index xs) (length xs) heaps reach used v) are plain)

-- ---- the last values

-- a list ends with the values exactly where each of them is the one of its place
pub ends : (held values : List ℕ) (r : Bool) → length values ≤ length held → r ≡ pointwise eqb values (drop (length held - length values) held)
    → Decides r ((i : ℕ) → i < length values → slice_index values i ≡ slice_index held (length held - length values + i))
ends held values r fits is =
    let at = length held - length values in
    let same = slice_eq-Decides Decides-eqb values (drop at held) r is in
    let size : length (drop at held) ≡ length values = omega (arith, length-drop at held) in (
      (λ yes i low. ap (λ xs. slice_index xs i) (same.0 yes) ∙ get_or-drop at held i 0),
      (λ each. same.1 (ext_get_or 0 values (drop at held) (sym size) (λ i low. each i low ∙ sym (get_or-drop at held i 0)))),
    )

-- so exactly where they are the nim-values of the last heaps
pub ends_known : (c : Code) (reach n : ℕ) (held values : List ℕ) (r : Bool) → IsHeld c reach n held → length values ≡ window c reach → r ≡ pointwise eqb values (drop (length held - length values) held)
    → IsTrue r ↔ ((i : ℕ) → i < window c reach → slice_index values i ≡ nim_value c (n - window c reach + i))
ends_known c reach n held values r is_held size is =
    let room = is_held.room in
    let fits = is_held.few in
    let told = ends held values r (omega arith) is in
    let value : (i : ℕ) → i < length values → slice_index held (length held - length values + i) ≡ nim_value c (n - window c reach + i) = λ i low.
    ap (slice_index held) (let at : length held - length values + i ≡ n - window c reach + i + length held - n = omega arith in at) ∙ is_held.last (n - window c reach + i) (omega arith) (omega arith) in (
      (λ yes i low. told.0 yes i (omega arith) ∙ value i (omega arith)),
      (λ each. told.1 (λ i low. each i (omega arith) ∙ sym (value i low))),
    )
