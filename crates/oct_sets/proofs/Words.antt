-- Words that are the sets of what moves that leave two heaps leave of one, and what steps make of them.
use Rattle.std.proofs.Common.{◌≡◌, ℕ, ◌+◌, ◌-◌, ◌^◌, ◌<◌, ◌≤◌, ◌⊎◌, ◌↔◌, ◌++◌, ◌∷◌, [], IsTrue, List, length, map, slice_index, slice_index_or, take, bit_xor, inl, inr, refl, arith, subst, sym, ◌∙◌, ap, length-append}
use Rattle.std.proofs.lemmas.Bool.{cases_lt}
use Rattle.std.proofs.lemmas.List.{get_or-map, get_or_default}
use Rattle.std.proofs.lemmas.List.Elements.{Contains-append_left, Contains-get_or, Contains-push, Contains-push_cases}
use Rattle.std.proofs.Math.Seq.{take-append_seam}
use Rattle.std.proofs.lemmas.Nat.{xor_comm}
use Rattle.std.proofs.lemmas.Nat.Bits.{bit_at-zero}
use Rattle.std.specs.Int.Bits.{xor_assoc, xor_self, xor_zero_r}
use Rattle.bitsets.specs.Sets.{Adds, AddsSmall, Has, IsMadeBehind}
use Rattle.std.specs.List.{Contains, slice_range}
use borrow.Rule.Slice.PartMut.{put_mid}
use Rattle.bitsets.proofs.Words.{in_range, put_after, put_before, put_here}
use Rattle.oct_code.specs.Code.{Code, allows, len}
use Rattle.oct_mex.specs.NimValues.{nim_value}
use Rattle.oct_mex.proofs.NimValues.{get-before, get-end}
use Rattle.oct_sets.specs.Plans.{AreLast, AreSplits, IsFarMade, IsLowMade, IsMade, IsOffsetOf, IsOneBefore, IsPairMade, IsShapedSteps, IsSplitValue}
use Rattle.oct_sets.specs.Sets.{ArePairs, AreTwins, IsBlock}
use Rattle.oct_sets.specs.declared.plan.Plan.{Plan}
use Rattle.oct_sets.specs.declared.plan.TheConstants.{BLOCK, LOW}
use Rattle.oct_sets.specs.declared.steps.Steps.{Steps}

-- the turn of a turned number
pub turned_back : (v x g : ℕ) → bit_xor v x ≡ g → v ≡ bit_xor x g
turned_back v x g is = sym (xor_zero_r v) ∙ ap (bit_xor v) (sym (xor_self x)) ∙ sym (xor_assoc v x x) ∙ xor_comm (bit_xor v x) x ∙ ap (bit_xor x) is

pub turned_forth : (v x g : ℕ) → v ≡ bit_xor x g → bit_xor v x ≡ g
turned_forth v x g is = ap (λ w. bit_xor w x) (is ∙ xor_comm x g) ∙ xor_assoc g x x ∙ ap (bit_xor g) (xor_self x) ∙ xor_zero_r g

has_none : (v : ℕ) → Has 0 v → ⊥
has_none v h = omega (arith, h, bit_at-zero v)

-- ---- a block

module _ {A : Type 0} (digits : ℕ) (c : Code) (n back apart twins reach : ℕ) (words : List ℕ) (s : Steps A) (low : ℕ) (are : ArePairs c n back words) (both : AreTwins c n back apart twins words)
    (few : length words ≤ back + n) (long : back + reach ≤ length words)
    (range : (k heap : ℕ) → k < length s.offsets.items → IsOffsetOf back apart (slice_index s.offsets.items k) heap → (low ≤ heap) × (heap ≤ reach))
    (made : (k : ℕ) → k < length s.offsets.items → back ≤ slice_index s.offsets.items k → length words ≤ back + twins) where
  -- what a step makes of the words is what it makes of the values
  step_made : (i v k : ℕ) → i < low → k < length s.offsets.items → Has (slice_index words (length words + i - slice_index s.offsets.items k)) (bit_xor v (slice_index s.values.items k)) → IsPairMade c (n + i) back apart s (length s.offsets.items) v
  step_made i v k within in_list has =
      let o = slice_index s.offsets.items k in
      let w = bit_xor v (slice_index s.values.items k) in
      let j = length words + i - o in
      elim (cases_lt o back) [
        | inl less ↦
            let one : IsOffsetOf back apart o o = inl (less, refl) in
            let is = range k o in_list one in
            let place : n + j - length words ≡ n + i - o = omega (arith, is.0, is.1, long, few, within) in
            record {
              at = k;
              within = in_list;
              heap = o;
              over = one;
              split = subst (λ h. IsSplitValue c h w) place ((are j w (omega (arith, is.1, long)) (omega (arith, is.0, within, is.1, long))).0 has);
            }
        | inr more ↦
            let h = o - back in
            let first : IsOffsetOf back apart o h = inr (omega (arith, more), inl (omega (arith, more))) in
            let second : IsOffsetOf back apart o (h + apart) = inr (omega (arith, more), inr (omega (arith, more))) in
            let is = range k h in_list first in
            let too = range k (h + apart) in_list second in
            let end = made k in_list (omega (arith, more)) in
            let place : n + (back + j) - length words ≡ n + i - h = omega (arith, is.0, is.1, long, few, within, more) in
            let farther : n + (back + j) - length words - apart ≡ n + i - (h + apart) = omega (arith, place) in
            elim ((both j w (omega (arith, too.1, long, more)) (omega (arith, is.0, is.1, within, end, long, more))).0 has) [
              | inl x ↦ record { at = k; within = in_list; heap = h; over = first; split = subst (λ e. IsSplitValue c e w) place x }
              | inr x ↦ record { at = k; within = in_list; heap = h + apart; over = second; split = subst (λ e. IsSplitValue c e w) farther x }
            ]
      ]

  step_has : (i v k heap : ℕ) → i < low → k < length s.offsets.items → IsOffsetOf back apart (slice_index s.offsets.items k) heap → IsSplitValue c (n + i - heap) (bit_xor v (slice_index s.values.items k))
      → Has (slice_index words (length words + i - slice_index s.offsets.items k)) (bit_xor v (slice_index s.values.items k))
  step_has i v k heap within in_list of split =
      let o = slice_index s.offsets.items k in
      let w = bit_xor v (slice_index s.values.items k) in
      let j = length words + i - o in
      let is = range k heap in_list of in
      elim of [
        | inl one ↦
            let place : n + i - heap ≡ n + j - length words = omega (arith, is.0, is.1, long, few, within, one.1) in
            (are j w (omega (arith, is.1, long, one.1)) (omega (arith, is.0, within, is.1, long, one.1))).1 (subst (λ h. IsSplitValue c h w) place split)
        | inr two ↦
            let h = o - back in
            let near = range k h in_list (inr (two.0, inl (omega (arith, two.0)))) in
            let too = range k (h + apart) in_list (inr (two.0, inr (omega (arith, two.0)))) in
            let end = made k in_list two.0 in
            let place : n + i - h ≡ n + (back + j) - length words = omega (arith, near.0, near.1, long, few, within, two.0) in
            let told = (both j w (omega (arith, too.1, long, two.0)) (omega (arith, near.0, near.1, within, end, long, two.0))).1 in
            elim two.1 [
              | inl first ↦ let e : n + i - heap ≡ n + (back + j) - length words = omega (arith, first, place) in told (inl (subst (λ h. IsSplitValue c h w) e split))
              | inr second ↦ let e : n + i - heap ≡ n + (back + j) - length words - apart = omega (arith, second, place, two.0) in told (inr (subst (λ h. IsSplitValue c h w) e split))
            ]
      ]

  made_pair : (i v : ℕ) → i < low → IsMadeBehind words (length words + i) s.offsets.items s.values.items (length s.offsets.items) v ↔ IsPairMade c (n + i) back apart s (length s.offsets.items) v
  made_pair i v within = (
    (λ m. step_made i v m.at within m.within m.has),
    (λ m. record { at = m.at; within = m.within; has = step_has i v m.at m.heap within m.within m.over m.split }),
  )

  pair_added : (i v old new : ℕ) → i < low → v < 2 ^ digits → AddsSmall digits old new (IsMadeBehind words (length words + i) s.offsets.items s.values.items (length s.offsets.items))
      → Has new v ↔ (Has old v ⊎ IsPairMade c (n + i) back apart s (length s.offsets.items) v)
  pair_added i v old new within small adds = (
    (λ h. elim ((adds v small).0 h) [ inl was ↦ inl was | inr m ↦ inr ((made_pair i v within).0 m) ]),
    (λ h. (adds v small).1 (elim h [ inl was ↦ inl was | inr m ↦ inr ((made_pair i v within).1 m) ])),
  )

  -- the same, by slices of the lists
  pub slices_added : (ws os vs : List ℕ) (place i v old new : ℕ) → ws ≡ words → os ≡ s.offsets.items → vs ≡ s.values.items → place ≡ length words → i < low → v < 2 ^ digits
      → AddsSmall digits old new (IsMadeBehind ws (place + i) os vs (length os)) → Has new v ↔ (Has old v ⊎ IsPairMade c (n + i) back apart s (length s.offsets.items) v)
  slices_added ws os vs place i v old new ew eo ev ep within small adds =
      pair_added i v old new within small
      (subst (λ k. AddsSmall digits old new (IsMadeBehind words (k + i) s.offsets.items s.values.items (length s.offsets.items))) ep
      (subst (λ xs. AddsSmall digits old new (IsMadeBehind words (place + i) s.offsets.items xs (length s.offsets.items))) ev
      (subst (λ xs. AddsSmall digits old new (IsMadeBehind words (place + i) xs vs (length xs))) eo
      (subst (λ xs. AddsSmall digits old new (IsMadeBehind xs (place + i) os vs (length os))) ew adds))))

-- the offsets of low steps are of heaps alone
pub low_range : {A : Type 0} (limit back apart reach : ℕ) (s : Steps A) → IsShapedSteps limit LOW reach s → reach < back → (k heap : ℕ) → k < length s.offsets.items → IsOffsetOf back apart (slice_index s.offsets.items k) heap → (LOW ≤ heap) × (heap ≤ reach)
low_range limit back apart reach s shaped less k heap low of =
    let from = shaped.from k low in
    let to = shaped.to k low in
    elim of [
      | inl one ↦ (omega (arith, one.1, from), omega (arith, one.1, to))
      | inr two ↦ absurd (omega (arith, two.0, to, less))
    ]

-- no word is one for twins
pub no_twins : (c : Code) (n back apart : ℕ) (words : List ℕ) → AreTwins c n back apart 0 words
no_twins c n back apart words j v far none = absurd (omega (arith, none))

-- what is added to no number
pub added_to_none : (old new v : ℕ) (P : Type 0) → old ≡ 0 → Has new v ↔ (Has old v ⊎ P) → Has new v ↔ P
added_to_none old new v P none adds = (
  (λ h. elim (adds.0 h) [ inl was ↦ absurd (has_none v (subst (λ w. Has w v) none was)) | inr is ↦ is ]),
  (λ is. adds.1 (inr is)),
)

-- low steps are added to one group more of a block
pub group_more : {W A : Type 0} (number : W → ℕ) (digits : ℕ) (c : Code) (start ready : ℕ) (p : Plan A) (block part : List W) → ready + LOW ≤ length block → ready + LOW ≤ BLOCK → length part ≡ ready + LOW - ready
    → ((i v : ℕ) → i < LOW → v < 2 ^ digits → Has (slice_index (map number part) i) v ↔ (Has (slice_index (map number (slice_range block ready (ready + LOW))) i) v ⊎ IsLowMade c (start + ready + i) p v))
    → IsBlock digits c start p ready (map number block) → IsBlock digits c start p (ready + LOW) (map number (put_mid ready (ready + LOW - ready) block part))
group_more number digits c start ready p block part low few full made was =
    let wide = ready + LOW - ready in
    let room : ready + wide ≤ length block = omega (arith, low) in
    record {
      first = λ i v within small. elim (cases_lt i ready) [
        | inl less ↦ subst (λ w. Has w v ↔ (IsFarMade c (start + i) p v ⊎ IsLowMade c (start + i) p v)) (sym (put_before number block ready wide part room full i less)) (was.first i v less small)
        | inr more ↦
            let at = i - ready in
            let far = was.others i v more (omega (arith, within, few)) small in
            let same : ready + at ≡ i = omega (arith, more) in
            let here : start + ready + at ≡ start + i = omega (arith, same) in
            let old_is : slice_index (map number (slice_range block ready (ready + LOW))) at ≡ slice_index (map number block) i =
            in_range number block ready (ready + LOW) at (omega (arith, more, within)) ∙ ap (slice_index (map number block)) same in
            let told = subst (λ k. Has (slice_index (map number part) at) v ↔ (Has (slice_index (map number (slice_range block ready (ready + LOW))) at) v ⊎ IsLowMade c k p v)) here (made at v (omega (arith, more, within)) small) in
            subst (λ w. Has w v ↔ (IsFarMade c (start + i) p v ⊎ IsLowMade c (start + i) p v)) (sym (put_here number block ready wide part room full i more (omega (arith, within, more)))) (
              (λ h. elim (told.0 h) [ inl o ↦ inl (far.0 (subst (λ w. Has w v) old_is o)) | inr l ↦ inr l ]),
              (λ h. told.1 (elim h [ inl f ↦ inl (subst (λ w. Has w v) (sym old_is) (far.1 f)) | inr l ↦ inr l ])),
            )
      ];
      others = λ i v after within small. subst (λ w. Has w v ↔ IsFarMade c (start + i) p v) (sym (put_after number block ready wide part room full i (omega (arith, after)))) (was.others i v (omega (arith, after)) within small);
    }

-- ---- the word of a heap

-- what stands before a place of the last values, by the numbers of beans that leave two heaps
pub one_before : (c : Code) (n h place : ℕ) (splits values : List ℕ) → AreSplits c splits → AreLast c n values → length values ≤ n → place < length values → h + length values ≡ n + place
    → ((k : ℕ) → k < length splits → slice_index splits k ≤ place) → (v : ℕ) → IsOneBefore splits values place (length splits) v ↔ IsSplitValue c h v
one_before c n h place splits values are last few within at low v = (
  (λ m.
      let r = slice_index splits m.at in
      let allowed = (are r).0 (Contains-get_or splits m.at 0 m.within) in
      let index : place - r ≡ (h - r) + length values - n = omega (arith, at, few, low m.at m.within, within) in
      record {
        removed = r;
        few = allowed.0;
        allowed = allowed.1;
        is = m.is ∙ ap (slice_index values) index ∙ last (h - r) (omega (arith, at, within, few)) (omega (arith, at, low m.at m.within, few, within));
      }),
  (λ s.
      let k = (are s.removed).1 (s.few, s.allowed) in
      let is_r : slice_index splits k.0 ≡ s.removed = get_or_default splits k.0 0 s.removed k.1 ∙ k.2 in
      let index : place - slice_index splits k.0 ≡ (h - s.removed) + length values - n = omega (arith, at, few, low k.0 k.1, within, is_r) in
      record {
        at = k.0;
        within = k.1;
        is = s.is ∙ sym (ap (slice_index values) index ∙ last (h - s.removed) (omega (arith, at, within, few)) (omega (arith, at, low k.0 k.1, few, within, is_r)));
      }),
)

-- ---- one word more

pub pairs_more : (c : Code) (n back word : ℕ) (words : List ℕ) → length words ≤ back + n → ArePairs c n back words → ((v : ℕ) → Has word v ↔ IsSplitValue c n v) → ArePairs c (n + 1) back (words ++ word ∷ [])
pairs_more c n back word words few are is j v behind within =
    let longer : length (words ++ word ∷ []) ≡ length words + 1 = omega (arith, length-append words (word ∷ [])) in
    elim (cases_lt j (length words)) [
      | inl less ↦
          let at : n + j - length words ≡ n + 1 + j - length (words ++ word ∷ []) = omega (arith, longer) in
          subst (λ w. Has w v ↔ IsSplitValue c (n + 1 + j - length (words ++ word ∷ [])) v) (sym (get-before words (word ∷ []) j less))
          (subst (λ k. Has (slice_index words j) v ↔ IsSplitValue c k v) at (are j v behind less))
      | inr more ↦
          let end : j ≡ length words = omega (arith, more, within, longer) in
          let at : n ≡ n + 1 + j - length (words ++ word ∷ []) = omega (arith, longer, end) in
          subst (λ w. Has w v ↔ IsSplitValue c (n + 1 + j - length (words ++ word ∷ [])) v) (sym (get-end words word j (sym end)))
          (subst (λ k. Has word v ↔ IsSplitValue c k v) at (is v))
    ]

pub twins_kept : (c : Code) (n back apart twins word : ℕ) (words : List ℕ) → twins ≤ length words → AreTwins c n back apart twins words → AreTwins c (n + 1) back apart twins (words ++ word ∷ [])
twins_kept c n back apart twins word words few are j v far within =
    let longer : length (words ++ word ∷ []) ≡ length words + 1 = omega (arith, length-append words (word ∷ [])) in
    let at : n + (back + j) - length words ≡ n + 1 + (back + j) - length (words ++ word ∷ []) = omega (arith, longer) in
    subst (λ w. Has w v ↔ (IsSplitValue c (n + 1 + (back + j) - length (words ++ word ∷ [])) v ⊎ IsSplitValue c (n + 1 + (back + j) - length (words ++ word ∷ []) - apart) v)) (sym (get-before words (word ∷ []) j (omega (arith, within, few))))
    (subst (λ k. Has (slice_index words j) v ↔ (IsSplitValue c k v ⊎ IsSplitValue c (k - apart) v)) at (are j v far within))

-- the last ones alone, behind others
pub pairs_last : (c : Code) (n back count : ℕ) (words last : List ℕ) → length words ≤ back + n → length last ≡ back + count → back + count ≤ length words
    → ((i : ℕ) → i < count → slice_index last (back + i) ≡ slice_index words (length words - count + i)) → ArePairs c n back words → ArePairs c n back last
pairs_last c n back count words last few size fewer same are j v behind within =
    let i = j - back in
    let place : back + i ≡ j = omega (arith, behind) in
    let from = length words - count + i in
    let at : n + from - length words ≡ n + j - length last = omega (arith, few, fewer, size, place) in
    let is : slice_index words from ≡ slice_index last j = sym (same i (omega (arith, within, size, place))) ∙ ap (slice_index last) place in
    subst (λ w. Has w v ↔ IsSplitValue c (n + j - length last) v) is
    (subst (λ k. Has (slice_index words from) v ↔ IsSplitValue c k v) at (are from v (omega (arith, fewer)) (omega (arith, within, size, place, fewer))))

-- the words for heaps stay where others change
pub pairs_same : (c : Code) (n back : ℕ) (old new : List ℕ) → length new ≡ length old → ((i : ℕ) → back ≤ i → slice_index new i ≡ slice_index old i) → ArePairs c n back old → ArePairs c n back new
pairs_same c n back old new size same are j v behind within =
    subst (λ w. Has w v ↔ IsSplitValue c (n + j - length new) v) (sym (same j behind))
    (subst (λ k. Has (slice_index old j) v ↔ IsSplitValue c (n + j - k) v) (sym size) (are j v behind (omega (arith, within, size))))

-- words for twins, of those of two heaps
pub twins_more : (c : Code) (n back apart twins : ℕ) (old new : List ℕ) → length old ≤ back + n → back + twins ≤ length old → length new ≡ length old
    → ((i : ℕ) → i < twins → slice_index new i ≡ slice_index old i)
    → ((i v : ℕ) → twins ≤ i → apart ≤ i → back + i < length old → Has (slice_index new i) v ↔ (Has (slice_index old (back + i)) v ⊎ Has (slice_index old (back + i - apart)) v))
    → ArePairs c n back old → AreTwins c n back apart twins old → AreTwins c n back apart (length old - back) new
twins_more c n back apart twins old new few most size first made are both j v far within =
    let here = n + (back + j) - length new in
    elim (cases_lt j twins) [
      | inl less ↦
          subst (λ w. Has w v ↔ (IsSplitValue c here v ⊎ IsSplitValue c (here - apart) v)) (sym (first j less))
          (subst (λ k. Has (slice_index old j) v ↔ (IsSplitValue c (n + (back + j) - k) v ⊎ IsSplitValue c (n + (back + j) - k - apart) v)) (sym size) (both j v far less))
      | inr more ↦
          let told = made j v (omega (arith, more)) far (omega (arith, within)) in
          let one : n + (back + j) - length old ≡ here = omega (arith, size) in
          let two : n + (back + j - apart) - length old ≡ here - apart = omega (arith, size, far) in
          let at = are (back + j) v (omega arith) (omega (arith, within)) in
          let before = are (back + j - apart) v (omega (arith, far)) (omega (arith, within)) in (
            (λ h. elim (told.0 h) [
              | inl x ↦ inl (subst (λ k. IsSplitValue c k v) one (at.0 x))
              | inr x ↦ inr (subst (λ k. IsSplitValue c k v) two (before.0 x))
            ]),
            (λ h. told.1 (elim h [
              | inl x ↦ inl (at.1 (subst (λ k. IsSplitValue c k v) (sym one) x))
              | inr x ↦ inr (before.1 (subst (λ k. IsSplitValue c k v) (sym two) x))
            ])),
          )
    ]

-- a list, and nothing of what stands behind it
pub taken : {W : Type 0} (n : ℕ) (xs ys : List W) → length xs ≡ n → take n (xs ++ ys) ≡ xs
taken n xs ys long = ap (λ k. take k (xs ++ ys)) (sym long) ∙ take-append_seam xs ys

-- the numbers of the last words
pub last_words : {W : Type 0} (number : W → ℕ) (words last : List W) (word : W) (i j : ℕ) → j < length last → i < length words
    → slice_index_or last j word ≡ slice_index_or words i word → slice_index (map number last) j ≡ slice_index (map number words) i
last_words number words last word i j low within same = get_or-map number last j word 0 low ∙ ap number same ∙ sym (get_or-map number words i word 0 within)

-- those of the last values
pub pairs_first : (c : Code) (n first back : ℕ) (splits values words : List ℕ) → AreSplits c splits → AreLast c n values → length values ≤ n → first ≤ length values → length words ≡ back + (length values - first)
    → ((k : ℕ) → k < length splits → slice_index splits k ≤ first)
    → ((i v : ℕ) → first + i < length values → Has (slice_index words (back + i)) v ↔ IsOneBefore splits values (first + i) (length splits) v) → ArePairs c n back words
pairs_first c n first back splits values words are last few begin size low each j v behind within =
    let i = j - back in
    let place : back + i ≡ j = omega (arith, behind) in
    let told = subst (λ k. Has (slice_index words k) v ↔ IsOneBefore splits values (first + i) (length splits) v) place (each i v (omega (arith, within, size, place, begin))) in
    let same = one_before c n (n + j - length words) (first + i) splits values are last few (omega (arith, within, size, place, begin)) (omega (arith, within, size, begin, few, place)) (λ k in_list. omega (arith, low k in_list)) v in
    ((λ has. same.0 (told.0 has)), (λ s. told.1 (same.1 s)))

-- ---- one step more, of near ones

pub made_more : {A : Type 0} (c : Code) (n : ℕ) (s : Steps A) (end old new word value g : ℕ) → Adds old new (Has word) → ((v : ℕ) → Has word v ↔ (v ≡ value)) → value ≡ bit_xor (slice_index s.values.items end) g
    → g ≡ nim_value c (n - slice_index s.offsets.items end) → (P : ℕ → Type 0) → (v : ℕ) → Has old v ↔ (P v ⊎ IsMade c n s end v) → Has new v ↔ (P v ⊎ IsMade c n s (end + 1) v)
made_more c n s end old new word value g adds one is known P v kept =
    let made : value ≡ bit_xor (slice_index s.values.items end) (nim_value c (n - slice_index s.offsets.items end)) = is ∙ ap (bit_xor (slice_index s.values.items end)) known in (
      (λ h. elim ((adds v).0 h) [
        | inl was ↦ elim (kept.0 was) [ inl p ↦ inl p | inr m ↦ inr (record { at = m.at; within = omega (arith, m.within); is = m.is }) ]
        | inr w ↦ inr (record { at = end; within = omega arith; is = (one v).0 w ∙ made })
      ]),
      (λ h. (adds v).1 (elim h [
        | inl p ↦ inl (kept.1 (inl p))
        | inr m ↦ elim (cases_lt m.at end) [
          | inl less ↦ inl (kept.1 (inr (record { at = m.at; within = less; is = m.is })))
          | inr more ↦
              let e : m.at ≡ end = omega (arith, more, m.within) in
              inr ((one v).1 (subst (λ k. v ≡ bit_xor (slice_index s.values.items k) (nim_value c (n - slice_index s.offsets.items k))) e m.is ∙ sym made))
        ]
      ])),
    )

-- ---- one more number, and one more place

pub before_more : (splits values : List ℕ) (place end old new word value : ℕ) → Adds old new (Has word) → ((v : ℕ) → Has word v ↔ (v ≡ value)) → value ≡ slice_index values (place - slice_index splits end)
    → ((v : ℕ) → Has old v ↔ IsOneBefore splits values place end v) → (v : ℕ) → Has new v ↔ IsOneBefore splits values place (end + 1) v
before_more splits values place end old new word value adds one is kept v = (
  (λ h. elim ((adds v).0 h) [
    | inl was ↦ let m = (kept v).0 was in record { at = m.at; within = omega (arith, m.within); is = m.is }
    | inr w ↦ record { at = end; within = omega arith; is = (one v).0 w ∙ is }
  ]),
  (λ m. (adds v).1 (elim (cases_lt m.at end) [
    | inl less ↦ inl ((kept v).1 (record { at = m.at; within = less; is = m.is }))
    | inr more ↦
        let e : m.at ≡ end = omega (arith, more, m.within) in
        inr ((one v).1 (subst (λ k. v ≡ slice_index values (place - slice_index splits k)) e m.is ∙ sym is))
  ])),
)

pub each_more : (words : List ℕ) (word first back place : ℕ) (P : ℕ → ℕ → Type 0) → length words ≡ back + (place - first) → first ≤ place → ((i v : ℕ) → first + i < place → Has (slice_index words (back + i)) v ↔ P (first + i) v)
    → ((v : ℕ) → Has word v ↔ P place v) → (i v : ℕ) → first + i < place + 1 → Has (slice_index (words ++ word ∷ []) (back + i)) v ↔ P (first + i) v
each_more words word first back place P size begun kept is i v low = elim (cases_lt (first + i) place) [
  | inl less ↦ subst (λ w. Has w v ↔ P (first + i) v) (sym (get-before words (word ∷ []) (back + i) (omega (arith, size, less)))) (kept i v less)
  | inr more ↦
      let end : length words ≡ back + i = omega (arith, size, more, low, begun) in
      let at : place ≡ first + i = omega (arith, more, low) in
      subst (λ w. Has w v ↔ P (first + i) v) (sym (get-end words word (back + i) end)) (subst (λ k. Has word v ↔ P k v) at (is v))
]

pub empty_set : (splits values : List ℕ) (place v : ℕ) → Has 0 v ↔ IsOneBefore splits values place 0 v
empty_set splits values place v = ((λ h. absurd (has_none v h)), (λ m. absurd (omega (arith, m.within))))

-- ---- the numbers of beans that leave two heaps

pub splits_more : (c : Code) (r : ℕ) (splits : List ℕ) → IsTrue (allows c r 2) → ((x : ℕ) → Contains splits x ↔ ((x < r) × IsTrue (allows c x 2))) → (x : ℕ) → Contains (splits ++ r ∷ []) x ↔ ((x < r + 1) × IsTrue (allows c x 2))
splits_more c r splits allowed kept x = (
  (λ h. elim (Contains-push_cases splits r x h) [
    | inl was ↦ let k = (kept x).0 was in (omega (arith, k.0), k.1)
    | inr e ↦ (omega (arith, e), subst (λ y. IsTrue (allows c y 2)) e allowed)
  ]),
  (λ k. elim (cases_lt x r) [
    | inl less ↦ Contains-append_left splits (r ∷ []) x ((kept x).1 (less, k.1))
    | inr more ↦
        let e : r ≡ x = omega (arith, more, k.0) in
        subst (λ y. Contains (splits ++ r ∷ []) y) e (Contains-push splits r)
  ]),
)

pub splits_skip : (c : Code) (r : ℕ) (splits : List ℕ) → (IsTrue (allows c r 2) → ⊥) → ((x : ℕ) → Contains splits x ↔ ((x < r) × IsTrue (allows c x 2))) → (x : ℕ) → Contains splits x ↔ ((x < r + 1) × IsTrue (allows c x 2))
splits_skip c r splits none kept x = (
  (λ h. let k = (kept x).0 h in (omega (arith, k.0), k.1)),
  (λ k. elim (cases_lt x r) [
    | inl less ↦ (kept x).1 (less, k.1)
    | inr more ↦
        let e : x ≡ r = omega (arith, more, k.0) in
        absurd (none (subst (λ y. IsTrue (allows c y 2)) e k.1))
  ]),
)

pub splits_all : (c : Code) (end : ℕ) (splits : List ℕ) → end ≡ len c + 1 → ((x : ℕ) → Contains splits x ↔ ((x < end) × IsTrue (allows c x 2))) → AreSplits c splits
splits_all c end splits is kept x = (
  (λ h. let k = (kept x).0 h in (omega (arith, is, k.0), k.1)),
  (λ k. (kept x).1 (omega (arith, is, k.0), k.1)),
)
