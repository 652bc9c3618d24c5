-- A plan's unions are the sets of the values of near options, and settle the next value.
use Rattle.std.proofs.Common.{◌≡◌, ℕ, ◌+◌, ◌-◌, ◌*◌, ◌<◌, ◌≤◌, false, IsTrue, List, length, slice_index, bit_xor, inl, inr, refl, arith, subst, sym, ◌∙◌, ◌↔◌, ◌⊎◌, ap, ap₂, Option, Some, None, IfSome}
use Rattle.std.proofs.lemmas.Bool.{cases_Bool, cases_eq, cases_lt, false≢true}
use Rattle.std.specs.List.{Contains}
use Rattle.bitsets.specs.Sets.{Has}
use Rattle.oct_code.specs.Code.{Code, len, allows}
use Rattle.oct_mex.specs.Marks.{heaps_left, IsRareBy, Parts}
use Rattle.oct_mex.specs.NimValues.{nim_value, IsOptionValue}
use Rattle.oct_mex.specs.Rare.{is_rare}
use Rattle.oct_mex.specs.Windows.{IsNear, IsReached, IsSettled, Settles}
use Rattle.oct_mex.specs.declared.mask.Mask.{Mask}
use Rattle.oct_mex.proofs.Mex.{mex_unique}
use Rattle.oct_mex.proofs.Moves.{heaps_left_grown, heaps_left_one, heaps_two, move_of, parts}
use Rattle.oct_mex.proofs.NimValues.{nim_sequence}
use Rattle.oct_mex.proofs.Windows.{common_pair}
use Rattle.oct_sets.specs.Plans.{HasHeap, HasStep, HasStepIn, IsAmong, IsEndStep, IsStepOver, IsHeapStep, IsMade, IsMadeBy, IsNearSet, IsOffsetOf, IsPairMade, IsPairStep, IsParted, IsPlan, IsSmallStep, IsStep, IsUnion}
use Rattle.oct_sets.proofs.Words.{turned_back, turned_forth}
use Rattle.oct_sets.specs.declared.plan.Plan.{Plan}
use Rattle.oct_sets.specs.declared.sorted.SmallHeap.{SmallHeap}
use Rattle.oct_sets.specs.declared.steps.Steps.{Steps}

module _ {A : Type 0} (c : Code) (heaps : List ℕ) (reach : ℕ) (p : Plan A) (limit n set : ℕ) (plan : IsPlan c heaps reach (HasStep c p)) (far : 2 * reach + len c < n) (union : IsUnion limit c n p set) where
  near_by : (v d x : ℕ) → IsStep c reach d x → v ≡ bit_xor x (nim_value c (n - d)) → IsNear c (nim_value c) n heaps reach v
  near_by v d x s is =
      let b = n - d in
      let filled : Parts c n s.removed s.small b = record {
        ordered = omega (arith, far, s.few, s.total, s.near);
        total = omega (arith, far, s.few, s.total, s.near);
        smaller = omega (arith, far, s.some);
        few = s.few;
        allowed = subst (λ k. IsTrue (allows c s.removed k)) (sym (heaps_left_grown s.small 1 b (omega arith) (omega (arith, far, s.few, s.total, s.near)))) s.allowed;
      } in
      record {
        option = record { a = s.small; b = b; move = move_of c n s.removed s.small b filled; is = is ∙ ap (λ y. bit_xor y (nim_value c b)) (sym s.value) };
        near = inl s.near;
      }

  near_over : (s : Steps A) → ((d x : ℕ) → IsStepOver c p.back p.apart s d x → HasStep c p d x) → (v : ℕ) → IsPairMade c n p.back p.apart s (length s.offsets.items) v → IsNear c (nim_value c) n heaps reach v
  near_over s has v m =
      let heap = m.heap in
      let value = slice_index s.values.items m.at in
      let r = m.split.removed in
      let same : n - heap - r ≡ n - (r + heap) = omega arith in
      near_by v (r + heap) value
      (plan.steps (r + heap) value (has (r + heap) value (record {
        removed = r;
        heap = heap;
        behind = slice_index s.offsets.items m.at;
        few = m.split.few;
        allowed = m.split.allowed;
        step = record { at = m.at; within = m.within; offset = refl; value = refl };
        over = m.over;
        offset = refl;
      })))
      (turned_back v value (nim_value c (n - (r + heap))) (m.split.is ∙ ap (nim_value c) same))

  near_of : (v : ℕ) → IsMadeBy c n p v → IsNear c (nim_value c) n heaps reach v
  near_of v made = elim made [
    | inl over ↦ elim over [ inl f ↦ near_over p.far (λ d x h. inl (inl h)) v f | inr l ↦ near_over p.low (λ d x h. inl (inr h)) v l ]
    | inr m ↦ near_by v (slice_index p.near.offsets.items m.at) (slice_index p.near.values.items m.at)
        (plan.steps (slice_index p.near.offsets.items m.at) (slice_index p.near.values.items m.at) (inr (record { at = m.at; within = m.within; offset = refl; value = refl }))) m.is
  ]

  made_in : (s : Steps A) (v d x b : ℕ) → HasStepIn s d x → n - d ≡ b → v ≡ bit_xor x (nim_value c b) → IsMade c n s (length s.offsets.items) v
  made_in s v d x b h rest is = record {
    at = h.at;
    within = h.within;
    is = is ∙ ap₂ (λ y z. bit_xor y (nim_value c z)) (sym h.value) (sym rest ∙ ap (λ o. n - o) (sym h.offset));
  }

  made_over : (s : Steps A) (v d x b : ℕ) → IsStepOver c p.back p.apart s d x → n - d ≡ b → v ≡ bit_xor x (nim_value c b) → IsPairMade c n p.back p.apart s (length s.offsets.items) v
  made_over s v d x b f rest is =
      let same : b ≡ n - f.heap - f.removed = omega (arith, f.offset, rest) in
      record {
        at = f.step.at;
        within = f.step.within;
        heap = f.heap;
        over = subst (λ k. IsOffsetOf p.back p.apart k f.heap) (sym f.step.offset) f.over;
        split = record {
          removed = f.removed;
          few = f.few;
          allowed = f.allowed;
          is = ap (bit_xor v) f.step.value ∙ turned_forth v x (nim_value c b) is ∙ ap (nim_value c) same;
        };
      }

  made_by : (v d x b : ℕ) → HasStep c p d x → n - d ≡ b → v ≡ bit_xor x (nim_value c b) → IsMadeBy c n p v
  made_by v d x b h rest is = elim h [
    | inl over ↦ inl (elim over [ inl f ↦ inl (made_over p.far v d x b f rest is) | inr l ↦ inr (made_over p.low v d x b l rest is) ])
    | inr e ↦ inr (made_in p.near v d x b e rest is)
  ]

  made_of : (v r : ℕ) → IsRareBy c (nim_value c) n heaps r v → IsMadeBy c n p v
  made_of v r (o, rare) =
      let q = o.parts in
      elim (cases_eq o.a 0) [
        | inl none ↦
            let left : heaps_left o.a o.b ≡ 1 = ap (λ a. heaps_left a o.b) none ∙ heaps_left_one o.b ∙ omega (arith, none, far, q.few, q.total) in
            made_by v r (nim_value c 0) o.b
            (plan.one r (omega (arith, none, q.total, q.smaller)) q.few (subst (λ k. IsTrue (allows c r k)) left q.allowed))
            (omega (arith, none, q.total)) (o.is ∙ ap (λ a. bit_xor (nim_value c a) (nim_value c o.b)) none)
        | inr some ↦
            let two = subst (λ k. IsTrue (allows c r k)) (heaps_two o.a o.b (omega (arith, some))) q.allowed in
            let listed = λ (h : Contains heaps o.a). made_by v (r + o.a) (nim_value c o.a) o.b (plan.rare r o.a q.few two h (omega (arith, some))) (omega (arith, q.total)) o.is in
            elim rare [
              | inl none ↦ absurd (some none)
              | inr h ↦ elim h [ inl x ↦ listed x | inr y ↦ absurd (omega (arith, plan.small o.b y, q.ordered, q.few, q.total, far)) ]
            ]
      ]

  pub near_set : IsNearSet limit c n heaps reach set
  near_set = record {
    sound = λ v small has. near_of v ((union v small).0 has);
    listed = λ v r small o. (union v small).1 (made_of v r o);
  }

pub settles : (limit : ℕ) (c : Code) (n : ℕ) (heaps : List ℕ) (reach set least : ℕ) → least < limit → ((v : ℕ) → v < least → Has set v) → (Has set least → ⊥) → IsNearSet limit c n heaps reach set
    → Settles c (nim_value c) n heaps reach limit least
settles limit c n heaps reach set least small below none near = record {
  reached = λ u less. near.sound u (omega (arith, less, small)) (below u less);
  unlisted = λ low r o. none (near.listed least r low o);
}

-- ---- what settles the next value is its value

module _ (limit : ℕ) (c : Code) (mask : Mask) (heaps : List ℕ) (reach n v : ℕ) (parted : IsParted c mask heaps reach n) (few : (h : ℕ) → Contains heaps h → h ≤ reach) (far : 2 * reach + len c < n) (small : v < limit)
    (not_rare : is_rare mask n v ≡ false) (settled : Settles c (nim_value c) n heaps reach limit v) where
  reached : (u : ℕ) → u < v → IsReached c reach n u
  reached u less =
      let o = settled.reached u less in
      let q = parts c n o.option.a o.option.b o.option.move in (
        o.option,
        elim o.near [
          | inl is ↦ is
          | inr listed ↦ elim listed [ inl first ↦ few o.option.a first | inr second ↦ omega (arith, q.ordered, few o.option.b second) ]
        ],
      )

  excluded : IsOptionValue c (nim_value c) n v → ⊥
  excluded o =
      let q = parts c n o.a o.b o.move in
      elim (cases_lt reach o.a) [
        | inl large ↦ false≢true (sym not_rare ∙ common_pair c mask n v parted.fit o (omega arith) (parted.common o.a large (omega (arith, q.ordered, q.smaller))) (parted.common o.b (omega (arith, q.ordered)) q.smaller))
        | inr near ↦ settled.unlisted small o.move.removed (
          record { a = o.a; b = o.b; parts = q; is = o.is },
          elim (cases_eq o.a 0) [
            | inl none ↦ inl none
            | inr some ↦ inr (elim (cases_Bool (is_rare mask o.a (nim_value c o.a))) [
              | inl is ↦ inl (parted.listed o.a (omega (arith, some)) near is)
              | inr common ↦ absurd (false≢true (sym not_rare ∙ common_pair c mask n v parted.fit o (omega (arith, some)) common (parted.common o.b (omega (arith, q.total, q.few, near, far)) q.smaller)))
            ])
          ],
        )
      ]

  pub value_is : v ≡ nim_value c n
  value_is = mex_unique (IsOptionValue c (nim_value c) n) (IsOptionValue c (nim_value c) n) v (nim_value c n)
      (record { excluded = excluded; below = λ u less. (reached u less).0 }) (nim_sequence c n) (λ w o. o) (λ w o. o)

  pub is_settled : IsSettled c mask reach n
  is_settled = record { common = subst (λ w. is_rare mask n w ≡ false) value_is not_rare; reached = λ u less. reached u (subst (λ w. u < w) (sym value_is) less) }

-- ---- a plan by the values of the first heaps

module _ {A : Type 0} (c : Code) (apart : ℕ) (rare small : List ℕ) (list : List SmallHeap) (p : Plan A) (some : 0 < length small)
    (first : (h : ℕ) → h < length small → slice_index small h ≡ nim_value c h)
    (listed : (h : ℕ) → Contains rare h → h < length small)
    (each : (h : SmallHeap) → Contains list h → IsAmong small apart h)
    (has : (h : ℕ) → Contains rare h → 1 ≤ h → HasHeap list h (slice_index small h))
    (steps : (d x : ℕ) → HasStep c p d x ↔ (IsEndStep c (slice_index small 0) (len c + 1) d x ⊎ IsHeapStep c apart list (length list) d x)) where
  -- a move over a small heap whose value stands among the first ones
  step_over : (h v d x : ℕ) → 1 ≤ h → h < length small → v ≡ slice_index small h → IsPairStep c h v (len c + 1) d x → IsStep c (length small - 1) d x
  step_over h v d x low few value k = record {
    removed = k.removed;
    small = h;
    few = omega (arith, k.few);
    total = sym k.offset;
    some = omega (arith, k.offset, low);
    value = sym (first h few) ∙ sym value ∙ sym k.is;
    near = omega (arith, few);
    allowed = subst (λ m. IsTrue (allows c k.removed m)) (sym (heaps_two h 1 (omega (arith, low)))) k.allowed;
  }

  step_of : (d x : ℕ) → HasStep c p d x → IsStep c (length small - 1) d x
  step_of d x h = elim ((steps d x).0 h) [
    | inl e ↦ record {
      removed = d;
      small = 0;
      few = omega (arith, e.few);
      total = omega arith;
      some = e.some;
      value = sym (first 0 some) ∙ sym e.value;
      near = omega arith;
      allowed = e.allowed;
    }
    | inr k ↦
        let among = each k.heap (k.at, k.within, k.is) in
        elim k.step [
          | inl one ↦ step_over k.heap.heap k.heap.value d x among.some among.few among.value one
          | inr two ↦
              let twin = among.twin two.0 in
              step_over (k.heap.heap + apart) k.heap.value d x (omega (arith, among.some)) twin.1 twin.2 two.1
        ]
  ]

  pub plan_is : IsPlan c rare (length small - 1) (HasStep c p)
  plan_is = record {
    steps = step_of;
    one = λ r low high allowed. (steps r (nim_value c 0)).1 (inl (record { some = low; few = omega (arith, high); allowed = allowed; value = sym (first 0 some) }));
    rare = λ r a few allowed is low.
        let k = has a is low in
        (steps (r + a) (nim_value c a)).1 (inr (record {
          heap = k.small;
          at = k.in_list.0;
          within = k.in_list.1;
          is = k.in_list.2;
          step = inl (record { removed = r; few = omega (arith, few); allowed = allowed; offset = ap (λ h. r + h) (sym k.heap); is = sym (first a (listed a is)) ∙ sym k.value });
        }));
    small = λ a is. omega (arith, listed a is);
  }

-- ---- where something settles it

pub value_of : (limit : ℕ) (c : Code) (mask : Mask) (heaps : List ℕ) (reach n : ℕ) (r : Option ℕ) → IsParted c mask heaps reach n → ((h : ℕ) → Contains heaps h → h ≤ reach) → 2 * reach + len c < n
    → IfSome r (λ v. v < limit) → IfSome r (λ v. is_rare mask n v ≡ false) → IfSome r (Settles c (nim_value c) n heaps reach limit) → IfSome r (λ v. v ≡ nim_value c n)
value_of limit c mask heaps reach n (Some v) parted few far small common settled = value_is limit c mask heaps reach n v parted few far small common settled
value_of limit c mask heaps reach n None parted few far small common settled = tt

pub settled_of : (limit : ℕ) (c : Code) (mask : Mask) (heaps : List ℕ) (reach n : ℕ) (r : Option ℕ) → IsParted c mask heaps reach n → ((h : ℕ) → Contains heaps h → h ≤ reach) → 2 * reach + len c < n
    → IfSome r (λ v. v < limit) → IfSome r (λ v. is_rare mask n v ≡ false) → IfSome r (Settles c (nim_value c) n heaps reach limit) → IfSome r (λ v. IsSettled c mask reach n)
settled_of limit c mask heaps reach n (Some v) parted few far small common settled = is_settled limit c mask heaps reach n v parted few far small common settled
settled_of limit c mask heaps reach n None parted few far small common settled = tt
