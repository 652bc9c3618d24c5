-- Lists of steps, as they grow.
use Rattle.std.proofs.Common.{◌≡◌, ℕ, ◌+◌, ◌<◌, ◌≤◌, ◌⊎◌, ◌++◌, ◌∷◌, [], IsTrue, Result, Ok, Err, OnOk, List, length, slice_index, slice_index_or, inl, inr, refl, sym, subst, subst₂, ap, ◌∙◌, arith, length-append}
use Rattle.std.proofs.lemmas.Bool.{cases_eq, cases_lt}
use Rattle.std.proofs.lemmas.List.{get_or_default}
use Rattle.std.specs.List.{Contains}
use Rattle.oct_code.specs.Code.{Code, len, allows}
use Rattle.oct_mex.proofs.NimValues.{get-before, get-end}
use Rattle.oct_sets.specs.Plans.{AddsSteps, HasHeap, HasStep, HasStepIn, IsEndStep, IsStepOver, IsHeapStep, IsOffsetOf, IsPairStep, IsShapedFar, IsShapedPlan, IsShapedSteps, IsSmallStep}
use Rattle.oct_sets.specs.declared.plan.Plan.{Plan}
use Rattle.oct_sets.specs.declared.plan.TheConstants.{BLOCK, LOW}
use Rattle.oct_sets.specs.declared.sorted.SmallHeap.{SmallHeap}
use Rattle.oct_sets.specs.declared.steps.Steps.{Steps}

-- ---- a list with one more step

module _ {A : Type 0} (old new : Steps A) (o v : ℕ) (beside : length old.values.items ≡ length old.offsets.items)
    (offsets : new.offsets.items ≡ old.offsets.items ++ o ∷ []) (values : new.values.items ≡ old.values.items ++ v ∷ []) where
  pub step_kept : (d x : ℕ) → HasStepIn old d x → HasStepIn new d x
  step_kept d x h = record {
    at = h.at;
    within = omega (arith, h.within, ap length offsets, length-append old.offsets.items (o ∷ []));
    offset = ap (λ xs. slice_index xs h.at) offsets ∙ get-before old.offsets.items (o ∷ []) h.at h.within ∙ h.offset;
    value = ap (λ xs. slice_index xs h.at) values ∙ get-before old.values.items (v ∷ []) h.at (omega (arith, beside, h.within)) ∙ h.value;
  }

  pub step_has : HasStepIn new o v
  step_has = record {
    at = length old.offsets.items;
    within = omega (arith, ap length offsets, length-append old.offsets.items (o ∷ []));
    offset = ap (λ xs. slice_index xs (length old.offsets.items)) offsets ∙ get-end old.offsets.items o (length old.offsets.items) refl;
    value = ap (λ xs. slice_index xs (length old.offsets.items)) values ∙ get-end old.values.items v (length old.offsets.items) beside;
  }

  pub step_only : (d x : ℕ) → HasStepIn new d x → HasStepIn old d x ⊎ ((d ≡ o) × (x ≡ v))
  step_only d x h = elim (cases_lt h.at (length old.offsets.items)) [
    | inl less ↦ inl (record {
      at = h.at;
      within = less;
      offset = sym (ap (λ xs. slice_index xs h.at) offsets ∙ get-before old.offsets.items (o ∷ []) h.at less) ∙ h.offset;
      value = sym (ap (λ xs. slice_index xs h.at) values ∙ get-before old.values.items (v ∷ []) h.at (omega (arith, beside, less))) ∙ h.value;
    })
    | inr more ↦
        let end : h.at ≡ length old.offsets.items = omega (arith, more, h.within, ap length offsets, length-append old.offsets.items (o ∷ [])) in
        inr (
          sym h.offset ∙ ap (λ xs. slice_index xs h.at) offsets ∙ get-end old.offsets.items o h.at (sym end),
          sym h.value ∙ ap (λ xs. slice_index xs h.at) values ∙ get-end old.values.items v h.at (beside ∙ sym end),
        )
  ]

pub each_push : (xs ys : List ℕ) (x : ℕ) (P : ℕ → Type 0) → ys ≡ xs ++ x ∷ [] → ((k : ℕ) → k < length xs → P (slice_index xs k)) → P x → (k : ℕ) → k < length ys → P (slice_index ys k)
each_push xs ys x P is each last k low = elim (cases_lt k (length xs)) [
  | inl less ↦ subst P (sym (ap (λ zs. slice_index zs k) is ∙ get-before xs (x ∷ []) k less)) (each k less)
  | inr more ↦
      let end : length xs ≡ k = omega (arith, more, low, ap length is, length-append xs (x ∷ [])) in
      subst P (sym (ap (λ zs. slice_index zs k) is ∙ get-end xs x k end)) last
]

pub steps_more : {A : Type 0} (limit low high o v : ℕ) (old new : Steps A) → IsShapedSteps limit low high old → new.offsets.items ≡ old.offsets.items ++ o ∷ [] → new.values.items ≡ old.values.items ++ v ∷ [] → low ≤ o → o ≤ high → v < limit
    → IsShapedSteps limit low high new
steps_more limit low high o v old new shaped offsets values least most small = record {
  beside = omega (arith, shaped.beside, ap length offsets, ap length values, length-append old.offsets.items (o ∷ []), length-append old.values.items (v ∷ []));
  from = each_push old.offsets.items new.offsets.items o (λ d. low ≤ d) offsets shaped.from least;
  to = each_push old.offsets.items new.offsets.items o (λ d. d ≤ high) offsets shaped.to most;
  small = each_push old.values.items new.values.items v (λ x. x < limit) values shaped.small small;
}

-- ---- one step more stands for all moves that leave the heap, or its twin

-- a move that leaves a heap of this offset, whose value is v, besides
pub record IsOver (c : Code) (back apart o v d x : ℕ) : Type 0 where
  pub heap : ℕ
  pub of : IsOffsetOf back apart o heap
  pub pair : IsPairStep c heap v (len c + 1) d x

module _ {A : Type 0} (c : Code) (back apart : ℕ) (old new : Steps A) (o v : ℕ) (beside : length old.values.items ≡ length old.offsets.items)
    (offsets : new.offsets.items ≡ old.offsets.items ++ o ∷ []) (values : new.values.items ≡ old.values.items ++ v ∷ []) where
  over_kept : (d x : ℕ) → IsStepOver c back apart old d x → IsStepOver c back apart new d x
  over_kept d x f = record {
    removed = f.removed;
    heap = f.heap;
    behind = f.behind;
    few = f.few;
    allowed = f.allowed;
    step = step_kept old new o v beside offsets values f.behind x f.step;
    over = f.over;
    offset = f.offset;
  }

  over_has : (d x : ℕ) → IsOver c back apart o v d x → IsStepOver c back apart new d x
  over_has d x is = record {
    removed = is.pair.removed;
    heap = is.heap;
    behind = o;
    few = omega (arith, is.pair.few);
    allowed = is.pair.allowed;
    step = subst (λ y. HasStepIn new o y) (sym is.pair.is) (step_has old new o v beside offsets values);
    over = is.of;
    offset = is.pair.offset;
  }

  over_only : (d x : ℕ) → IsStepOver c back apart new d x → IsStepOver c back apart old d x ⊎ IsOver c back apart o v d x
  over_only d x f = elim (step_only old new o v beside offsets values f.behind x f.step) [
    | inl was ↦ inl (record { removed = f.removed; heap = f.heap; behind = f.behind; few = f.few; allowed = f.allowed; step = was; over = f.over; offset = f.offset })
    | inr is ↦ inr (record {
      heap = f.heap;
      of = subst (λ k. IsOffsetOf back apart k f.heap) is.0 f.over;
      pair = record { removed = f.removed; few = omega (arith, f.few); allowed = f.allowed; offset = f.offset; is = is.1 };
    })
  ]

-- a heap that is smaller than `back` is the one of its offset
pub over_alone : (c : Code) (back apart o v : ℕ) → o < back → (d x : ℕ) → IsOver c back apart o v d x → IsPairStep c o v (len c + 1) d x
over_alone c back apart o v less d x is = elim is.of [
  | inl one ↦ subst (λ h. IsPairStep c h v (len c + 1) d x) one.1 is.pair
  | inr two ↦ absurd (omega (arith, less, two.0))
]

pub alone_over : (c : Code) (back apart o v : ℕ) → o < back → (d x : ℕ) → IsPairStep c o v (len c + 1) d x → IsOver c back apart o v d x
alone_over c back apart o v less d x is = record { heap = o; of = inl (less, refl); pair = is }

pub over_twins : (c : Code) (back apart h v d x : ℕ) → IsOver c back apart (back + h) v d x → IsPairStep c h v (len c + 1) d x ⊎ IsPairStep c (h + apart) v (len c + 1) d x
over_twins c back apart h v d x is = elim is.of [
  | inl one ↦ absurd (omega (arith, one.0))
  | inr two ↦ elim two.1 [
    | inl first ↦ let e : is.heap ≡ h = omega (arith, first) in inl (subst (λ k. IsPairStep c k v (len c + 1) d x) e is.pair)
    | inr second ↦ let e : is.heap ≡ h + apart = omega (arith, second) in inr (subst (λ k. IsPairStep c k v (len c + 1) d x) e is.pair)
  ]
]

pub twins_over : (c : Code) (back apart h v d x : ℕ) → IsPairStep c h v (len c + 1) d x ⊎ IsPairStep c (h + apart) v (len c + 1) d x → IsOver c back apart (back + h) v d x
twins_over c back apart h v d x is = elim is [
  | inl first ↦ record { heap = h; of = inr (omega arith, inl (omega arith)); pair = first }
  | inr second ↦ record { heap = h + apart; of = inr (omega arith, inr (omega arith)); pair = second }
]

over_as : {A : Type 0} (c : Code) (a b : Plan A) (s t : Steps A) (d x : ℕ) → a.back ≡ b.back → a.apart ≡ b.apart → s ≡ t → IsStepOver c a.back a.apart s d x → IsStepOver c b.back b.apart t d x
over_as c a b s t d x back apart same is = subst (λ r. IsStepOver c b.back b.apart r d x) same (subst₂ (λ k j. IsStepOver c k j s d x) back apart is)

-- ---- a plan with one more step

module _ {A : Type 0} (c : Code) (old new : Plan A) (o v : ℕ) (back : new.back ≡ old.back) (apart : new.apart ≡ old.apart) where
  kept_as : (s t : Steps A) → t ≡ s → (d x : ℕ) → IsStepOver c old.back old.apart s d x → IsStepOver c new.back new.apart t d x
  kept_as s t same d x is = over_as c old new s t d x (sym back) (sym apart) (sym same) is

  was_as : (s t : Steps A) → t ≡ s → (d x : ℕ) → IsStepOver c new.back new.apart t d x → IsStepOver c old.back old.apart s d x
  was_as s t same d x is = over_as c new old t s d x back apart same is

  pub adds_near : new.far ≡ old.far → new.low ≡ old.low → length old.near.values.items ≡ length old.near.offsets.items
      → new.near.offsets.items ≡ old.near.offsets.items ++ o ∷ [] → new.near.values.items ≡ old.near.values.items ++ v ∷ [] → AddsSteps c old new (λ d x. (d ≡ o) × (x ≡ v))
  adds_near far low beside offsets values = record {
    keeps = λ d x h. elim h [
      | inl over ↦ inl (elim over [ inl f ↦ inl (kept_as old.far new.far far d x f) | inr l ↦ inr (kept_as old.low new.low low d x l) ])
      | inr n ↦ inr (step_kept old.near new.near o v beside offsets values d x n)
    ];
    has = λ d x is. inr (subst (λ e. HasStepIn new.near e x) (sym is.0) (subst (λ y. HasStepIn new.near o y) (sym is.1) (step_has old.near new.near o v beside offsets values)));
    only = λ d x h. elim h [
      | inl over ↦ inl (inl (elim over [ inl f ↦ inl (was_as old.far new.far far d x f) | inr l ↦ inr (was_as old.low new.low low d x l) ]))
      | inr n ↦ elim (step_only old.near new.near o v beside offsets values d x n) [ inl was ↦ inl (inr was) | inr is ↦ inr is ]
    ];
  }

  pub adds_far : new.low ≡ old.low → new.near ≡ old.near → length old.far.values.items ≡ length old.far.offsets.items
      → new.far.offsets.items ≡ old.far.offsets.items ++ o ∷ [] → new.far.values.items ≡ old.far.values.items ++ v ∷ [] → AddsSteps c old new (IsOver c old.back old.apart o v)
  adds_far low near beside offsets values = record {
    keeps = λ d x h. elim h [
      | inl over ↦ inl (elim over [ inl f ↦ inl (kept_as new.far new.far refl d x (over_kept c old.back old.apart old.far new.far o v beside offsets values d x f)) | inr l ↦ inr (kept_as old.low new.low low d x l) ])
      | inr n ↦ inr (subst (λ s. HasStepIn s d x) (sym near) n)
    ];
    has = λ d x is. inl (inl (kept_as new.far new.far refl d x (over_has c old.back old.apart old.far new.far o v beside offsets values d x is)));
    only = λ d x h. elim h [
      | inl over ↦ elim over [
        | inl f ↦ elim (over_only c old.back old.apart old.far new.far o v beside offsets values d x (was_as new.far new.far refl d x f)) [ inl was ↦ inl (inl (inl was)) | inr is ↦ inr is ]
        | inr l ↦ inl (inl (inr (was_as old.low new.low low d x l)))
      ]
      | inr n ↦ inl (inr (subst (λ s. HasStepIn s d x) near n))
    ];
  }

  pub adds_low : new.far ≡ old.far → new.near ≡ old.near → length old.low.values.items ≡ length old.low.offsets.items
      → new.low.offsets.items ≡ old.low.offsets.items ++ o ∷ [] → new.low.values.items ≡ old.low.values.items ++ v ∷ [] → AddsSteps c old new (IsOver c old.back old.apart o v)
  adds_low far near beside offsets values = record {
    keeps = λ d x h. elim h [
      | inl over ↦ inl (elim over [ inl f ↦ inl (kept_as old.far new.far far d x f) | inr l ↦ inr (kept_as new.low new.low refl d x (over_kept c old.back old.apart old.low new.low o v beside offsets values d x l)) ])
      | inr n ↦ inr (subst (λ s. HasStepIn s d x) (sym near) n)
    ];
    has = λ d x is. inl (inr (kept_as new.low new.low refl d x (over_has c old.back old.apart old.low new.low o v beside offsets values d x is)));
    only = λ d x h. elim h [
      | inl over ↦ elim over [
        | inl f ↦ inl (inl (inl (was_as old.far new.far far d x f)))
        | inr l ↦ elim (over_only c old.back old.apart old.low new.low o v beside offsets values d x (was_as new.low new.low refl d x l)) [ inl was ↦ inl (inl (inr was)) | inr is ↦ inr is ]
      ]
      | inr n ↦ inl (inr (subst (λ s. HasStepIn s d x) near n))
    ];
  }

-- the offsets of a list with one more are of heaps that are far
pub far_more : {A : Type 0} (limit reach back apart o v : ℕ) (old new : Steps A) → IsShapedFar limit reach back apart old → new.offsets.items ≡ old.offsets.items ++ o ∷ [] → new.values.items ≡ old.values.items ++ v ∷ []
    → BLOCK ≤ o → o ≤ back + reach → v < limit → ((heap : ℕ) → IsOffsetOf back apart o heap → (BLOCK ≤ heap) × (heap ≤ reach)) → IsShapedFar limit reach back apart new
far_more limit reach back apart o v old new shaped offsets values least most small of = record {
  steps = steps_more limit BLOCK (back + reach) o v old new shaped.steps offsets values least most small;
  over = λ k heap low is. each_push old.offsets.items new.offsets.items o (λ d. (h : ℕ) → IsOffsetOf back apart d h → (BLOCK ≤ h) × (h ≤ reach)) offsets (λ j less h. shaped.over j h less) of k low heap is;
}

pub alone_far : (reach back apart o : ℕ) → o < back → BLOCK ≤ o → o ≤ reach → (heap : ℕ) → IsOffsetOf back apart o heap → (BLOCK ≤ heap) × (heap ≤ reach)
alone_far reach back apart o less least most heap is = elim is [
  | inl one ↦ (omega (arith, least, one.1), omega (arith, most, one.1))
  | inr two ↦ absurd (omega (arith, less, two.0))
]

pub twins_far : (reach back apart h : ℕ) → BLOCK ≤ h → h + apart ≤ reach → (heap : ℕ) → IsOffsetOf back apart (back + h) heap → (BLOCK ≤ heap) × (heap ≤ reach)
twins_far reach back apart h least most heap is = elim is [
  | inl one ↦ absurd (omega (arith, one.0))
  | inr two ↦ elim two.1 [
    | inl first ↦ (omega (arith, least, first), omega (arith, most, first))
    | inr second ↦ (omega (arith, least, second), omega (arith, most, second))
  ]
]

pub adds_none : {A : Type 0} (c : Code) (p : Plan A) (P : ℕ → ℕ → Type 0) → ((d x : ℕ) → P d x → ⊥) → AddsSteps c p p P
adds_none c p P none = record { keeps = λ d x h. h; has = λ d x is. absurd (none d x is); only = λ d x h. inl h }

pub adds_same : {A : Type 0} (c : Code) (a b : Plan A) (P R : ℕ → ℕ → Type 0) → AddsSteps c a b P → ((d x : ℕ) → R d x → P d x) → ((d x : ℕ) → P d x → R d x) → AddsSteps c a b R
adds_same c a b P R adds back forth = record {
  keeps = adds.keeps;
  has = λ d x is. adds.has d x (back d x is);
  only = λ d x h. elim (adds.only d x h) [ inl was ↦ inl was | inr is ↦ inr (forth d x is) ];
}

pub adds_more : {A : Type 0} (code : Code) (a b c : Plan A) (P Q R : ℕ → ℕ → Type 0) → AddsSteps code a b P → AddsSteps code b c Q → ((d x : ℕ) → R d x → P d x ⊎ Q d x) → ((d x : ℕ) → P d x ⊎ Q d x → R d x)
    → AddsSteps code a c R
adds_more code a b c P Q R first second back forth = record {
  keeps = λ d x h. second.keeps d x (first.keeps d x h);
  has = λ d x is. elim (back d x is) [ inl p ↦ second.keeps d x (first.has d x p) | inr q ↦ second.has d x q ];
  only = λ d x h. elim (second.only d x h) [
    | inl was ↦ elim (first.only d x was) [ inl old ↦ inl old | inr p ↦ inr (forth d x (inl p)) ]
    | inr q ↦ inr (forth d x (inr q))
  ];
}

-- ---- one more number of beans

pub end_back : (c : Code) (first r d x : ℕ) → IsEndStep c first (r + 1) d x → IsEndStep c first r d x ⊎ ((d ≡ r) × (x ≡ first))
end_back c first r d x s = elim (cases_eq d r) [
  | inl e ↦ inr (e, s.value)
  | inr ne ↦ inl (record { some = s.some; few = omega (arith, s.few, ne); allowed = s.allowed; value = s.value })
]

pub end_forth : (c : Code) (first r d x : ℕ) → 1 ≤ r → IsTrue (allows c r 1) → IsEndStep c first r d x ⊎ ((d ≡ r) × (x ≡ first)) → IsEndStep c first (r + 1) d x
end_forth c first r d x some allowed s = elim s [
  | inl was ↦ record { some = was.some; few = omega (arith, was.few); allowed = was.allowed; value = was.value }
  | inr is ↦ record { some = omega (arith, some, is.0); few = omega (arith, is.0); allowed = subst (λ k. IsTrue (allows c k 1)) (sym is.0) allowed; value = is.1 }
]

pub end_skip : (c : Code) (first r d x : ℕ) → (IsTrue (allows c r 1) → ⊥) → IsEndStep c first (r + 1) d x → IsEndStep c first r d x
end_skip c first r d x none s = elim (end_back c first r d x s) [ inl was ↦ was | inr is ↦ absurd (none (subst (λ k. IsTrue (allows c k 1)) is.0 s.allowed)) ]

pub end_later : (c : Code) (first r d x : ℕ) → IsEndStep c first r d x → IsEndStep c first (r + 1) d x
end_later c first r d x was = record { some = was.some; few = omega (arith, was.few); allowed = was.allowed; value = was.value }

pub pair_back : (c : Code) (heap value r d x : ℕ) → IsPairStep c heap value (r + 1) d x → IsPairStep c heap value r d x ⊎ ((d ≡ r + heap) × (x ≡ value))
pair_back c heap value r d x s = elim (cases_eq s.removed r) [
  | inl e ↦ inr (omega (arith, e, s.offset), s.is)
  | inr ne ↦ inl (record { removed = s.removed; few = omega (arith, s.few, ne); allowed = s.allowed; offset = s.offset; is = s.is })
]

pub pair_later : (c : Code) (heap value r d x : ℕ) → IsPairStep c heap value r d x → IsPairStep c heap value (r + 1) d x
pair_later c heap value r d x was = record { removed = was.removed; few = omega (arith, was.few); allowed = was.allowed; offset = was.offset; is = was.is }

pub pair_forth : (c : Code) (heap value r d x : ℕ) → IsTrue (allows c r 2) → IsPairStep c heap value r d x ⊎ ((d ≡ r + heap) × (x ≡ value)) → IsPairStep c heap value (r + 1) d x
pair_forth c heap value r d x allowed s = elim s [
  | inl was ↦ pair_later c heap value r d x was
  | inr is ↦ record { removed = r; few = omega arith; allowed = allowed; offset = is.0; is = is.1 }
]

pub pair_skip : (c : Code) (heap value r d x : ℕ) → (IsTrue (allows c r 2) → ⊥) → IsPairStep c heap value (r + 1) d x → IsPairStep c heap value r d x
pair_skip c heap value r d x none s = elim (cases_eq s.removed r) [
  | inl e ↦ absurd (none (subst (λ k. IsTrue (allows c k 2)) e s.allowed))
  | inr ne ↦ record { removed = s.removed; few = omega (arith, s.few, ne); allowed = s.allowed; offset = s.offset; is = s.is }
]

-- ---- one more heap

pub heap_back : (c : Code) (apart : ℕ) (heaps : List SmallHeap) (i : ℕ) (h : SmallHeap) (d x : ℕ) → ((e : SmallHeap) → slice_index_or heaps i e ≡ h) → IsHeapStep c apart heaps (i + 1) d x
    → IsHeapStep c apart heaps i d x ⊎ IsSmallStep c apart h d x
heap_back c apart heaps i h d x here s = elim (cases_eq s.at i) [
  | inl e ↦ inr (subst (λ (k : SmallHeap). IsSmallStep c apart k d x) (sym s.is ∙ ap (λ k. slice_index_or heaps k s.heap) e ∙ here s.heap) s.step)
  | inr ne ↦ inl (record { heap = s.heap; at = s.at; within = omega (arith, s.within, ne); is = s.is; step = s.step })
]

pub heap_forth : (c : Code) (apart : ℕ) (heaps : List SmallHeap) (i : ℕ) (h : SmallHeap) (d x : ℕ) → ((e : SmallHeap) → slice_index_or heaps i e ≡ h)
    → IsHeapStep c apart heaps i d x ⊎ IsSmallStep c apart h d x → IsHeapStep c apart heaps (i + 1) d x
heap_forth c apart heaps i h d x here s = elim s [
  | inl was ↦ record { heap = was.heap; at = was.at; within = omega (arith, was.within); is = was.is; step = was.step }
  | inr is ↦ record { heap = h; at = i; within = omega arith; is = here h; step = is }
]

-- ---- what holds on success

pub on_both : {X Y : Type 0} (r : Result X Y) (P Q R : Type 0) → OnOk r P → OnOk r Q → (P → Q → R) → OnOk r R
on_both (Ok x) P Q R p q f = f p q
on_both (Err e) P Q R p q f = tt

pub on_one : {X Y : Type 0} (r : Result X Y) (P R : Type 0) → OnOk r P → (P → R) → OnOk r R
on_one (Ok x) P R p f = f p
on_one (Err e) P R p f = tt

-- ---- an empty plan

steps_none : {A : Type 0} (s : Steps A) → s.offsets.items ≡ [] → s.values.items ≡ [] → (limit low high : ℕ) → IsShapedSteps limit low high s
steps_none s offsets values limit low high = record {
  beside = ap length values ∙ sym (ap length offsets);
  from = λ k few. absurd (omega (arith, few, ap length offsets));
  to = λ k few. absurd (omega (arith, few, ap length offsets));
  small = λ k few. absurd (omega (arith, few, ap length values));
}

pub shaped_none : {A : Type 0} (p : Plan A) → p.far.offsets.items ≡ [] → p.far.values.items ≡ [] → p.low.offsets.items ≡ [] → p.low.values.items ≡ [] → p.near.offsets.items ≡ [] → p.near.values.items ≡ []
    → (limit reach width : ℕ) → reach < p.back → IsShapedPlan limit reach width p
shaped_none p foffs fvals loffs lvals noffs nvals limit reach width less = record {
  far = record { steps = steps_none p.far foffs fvals limit BLOCK (p.back + reach); over = λ k heap few. absurd (omega (arith, few, ap length foffs)) };
  low = steps_none p.low loffs lvals limit LOW reach;
  near = steps_none p.near noffs nvals limit 1 width;
  back = less;
}

pub has_none : {A : Type 0} (c : Code) (p : Plan A) (d x : ℕ) → p.far.offsets.items ≡ [] → p.low.offsets.items ≡ [] → p.near.offsets.items ≡ [] → HasStep c p d x → ⊥
has_none c p d x far low near h = elim h [
  | inl over ↦ elim over [ inl f ↦ omega (arith, f.step.within, ap length far) | inr l ↦ omega (arith, l.step.within, ap length low) ]
  | inr n ↦ omega (arith, n.within, ap length near)
]

-- ---- from places to elements

pub at_each : (xs : List ℕ) (P : ℕ → Type 0) → ((i : ℕ) → i < length xs → P (slice_index xs i)) → (x : ℕ) → Contains xs x → P x
at_each xs P each x is = subst P (get_or_default xs is.0 0 x is.1 ∙ is.2) (each is.0 is.1)

pub add_has : (small heaps : List ℕ) (list : List SmallHeap) → ((i : ℕ) → i < length heaps → 1 ≤ slice_index heaps i → HasHeap list (slice_index heaps i) (slice_index small (slice_index heaps i)))
    → (h : ℕ) → Contains heaps h → 1 ≤ h → HasHeap list h (slice_index small h)
add_has small heaps list each h is = at_each heaps (λ x. 1 ≤ x → HasHeap list x (slice_index small x)) each h is
