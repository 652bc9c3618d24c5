-- Steps that add marks to a table.
use Rattle.std.proofs.Common.{◌≡◌, ℕ, suc, ◌^◌, ◌++◌, ◌∷◌, [], ap, refl, ◌+◌, ◌*◌, ◌/◌, ◌<◌, ◌≤◌, ◌-◌, IsTrue, Bool, List, length, slice_index, sym, ap₂, ◌∙◌, subst, arith, ◌⊎◌, inl, inr, bit_xor}
use Rattle.std.proofs.lemmas.Bool.{cases_eq, cases_lt}
use Rattle.std.proofs.Math.Nat.{pow-suc}
use Rattle.std.specs.List.{Contains}
use Rattle.std.proofs.lemmas.List.{get_or_default}
use Rattle.std.proofs.lemmas.List.Elements.{All-push, All-weaker, Contains-get_or}
use Rattle.std.proofs.lemmas.Nat.{xor_lt, xor_comm, pow_pos}
use Rattle.oct_code.specs.Code.{Code, len, allows}
use Rattle.oct_mex.specs.Marks.{IsOneHeapBy, heaps_left, IsBelow, AddsMarks, IsPairBy, IsPairValue, IsPairWith, IsRareBy, IsRarePair, IsOptionBy, IsTableFor}
use Rattle.oct_mex.proofs.Moves.{heaps_two}

-- one step after another
pub AddsMarks-then : (x y z : List Bool) (P Q R : ℕ → Type 0) → AddsMarks x y P → AddsMarks y z Q
    → ((v : ℕ) → R v → P v ⊎ Q v) → ((v : ℕ) → P v → R v) → ((v : ℕ) → Q v → R v) → AddsMarks x z R
AddsMarks-then x y z P Q R p q split of_p of_q = record {
  size = q.size ∙ p.size;
  marked = λ v l.
      let first = p.marked v l in
      let second = q.marked v (omega (arith, p.size)) in (
        (λ m. elim (second.0 m) [ inl k ↦ elim (first.0 k) [ inl j ↦ inl j | inr h ↦ inr (of_p v h) ] | inr h ↦ inr (of_q v h) ]),
        (λ c. elim c [
          | inl j ↦ second.1 (inl (first.1 (inl j)))
          | inr r ↦ elim (split v r) [ inl h ↦ second.1 (inl (first.1 (inr h))) | inr h ↦ second.1 (inr h) ]
        ]),
      );
}

-- the same marks, said otherwise
pub AddsMarks-as : (x y : List Bool) (P R : ℕ → Type 0) → AddsMarks x y P → ((v : ℕ) → P v → R v) → ((v : ℕ) → R v → P v) → AddsMarks x y R
AddsMarks-as x y P R p to from = record {
  size = p.size;
  marked = λ v l.
      let first = p.marked v l in (
        (λ m. elim (first.0 m) [ inl j ↦ inl j | inr h ↦ inr (to v h) ]),
        (λ c. elim c [ inl j ↦ first.1 (inl j) | inr r ↦ first.1 (inr (from v r)) ]),
      );
}

pub pair_to : (g : ℕ → ℕ) (rest from end v : ℕ) {far : ℕ} (o : IsPairValue g rest from far v) → o.a < end → IsPairValue g rest from end v
pair_to g rest from end v o low = record { a = o.a; b = o.b; high = o.high; low = low; ordered = o.ordered; total = o.total; is = o.is }

pub pair_within : (g : ℕ → ℕ) (rest from end v : ℕ) {near far : ℕ} (o : IsPairValue g rest near far v) → from ≤ o.a → o.a < end → IsPairValue g rest from end v
pair_within g rest from end v o high low = record { a = o.a; b = o.b; high = high; low = low; ordered = o.ordered; total = o.total; is = o.is }

-- the next pair
pub pairs_more : (g : ℕ → ℕ) (rest from a b : ℕ) (x y z : List Bool) → from ≤ a → a ≤ b → a + b ≡ rest
    → AddsMarks x y (IsPairValue g rest from a) → AddsMarks y z (λ v. v ≡ bit_xor (g a) (g b)) → AddsMarks x z (IsPairValue g rest from (a + 1))
pairs_more g rest from a b x y z high ordered total p q =
    AddsMarks-then x y z (IsPairValue g rest from a) (λ v. v ≡ bit_xor (g a) (g b)) (IsPairValue g rest from (a + 1)) p q
    (λ v o. elim (cases_eq o.a a) [
      | inl e ↦
          let f : o.b ≡ b = omega (arith, o.total) in
          inr (o.is ∙ ap₂ (λ m n. bit_xor (g m) (g n)) e f)
      | inr ne ↦ inl (pair_to g rest from a v o (omega (arith, o.low)))
    ])
    (λ v o. pair_to g rest from (a + 1) v o (omega (arith, o.low)))
    (λ v e. record { a = a; b = b; high = high; low = omega arith; ordered = ordered; total = total; is = e })

-- the pairs of the next range
pub pair_ranges : (g : ℕ → ℕ) (rest from middle end : ℕ) (x y z : List Bool) → from ≤ middle → middle ≤ end
    → AddsMarks x y (IsPairValue g rest from middle) → AddsMarks y z (IsPairValue g rest middle end) → AddsMarks x z (IsPairValue g rest from end)
pair_ranges g rest from middle end x y z l h p q =
    AddsMarks-then x y z (IsPairValue g rest from middle) (IsPairValue g rest middle end) (IsPairValue g rest from end) p q
    (λ v o. elim (cases_lt o.a middle) [ inl lt ↦ inl (pair_to g rest from middle v o lt) | inr le ↦ inr (pair_within g rest middle end v o le o.low) ])
    (λ v o. pair_to g rest from end v o (omega (arith, o.low)))
    (λ v o. pair_within g rest from end v o (omega (arith, o.high)) o.low)

-- the next heap of the list leaves a pair
pub rare_more : (g : ℕ → ℕ) (heaps : List ℕ) (rest at b : ℕ) (x y z : List Bool) → 1 ≤ slice_index heaps at → 1 ≤ b → slice_index heaps at + b ≡ rest
    → AddsMarks x y (IsRarePair g heaps rest at) → AddsMarks y z (λ v. v ≡ bit_xor (g (slice_index heaps at)) (g b)) → AddsMarks x z (IsRarePair g heaps rest (at + 1))
rare_more g heaps rest at b x y z first second total p q =
    AddsMarks-then x y z (IsRarePair g heaps rest at) (λ v. v ≡ bit_xor (g (slice_index heaps at)) (g b)) (IsRarePair g heaps rest (at + 1)) p q
    (λ v o. elim (cases_eq o.at at) [
      | inl e ↦
          let same : slice_index heaps o.at ≡ slice_index heaps at = ap (slice_index heaps) e in
          let f : o.b ≡ b = omega (arith, o.total, same) in
          inr (o.is ∙ ap₂ (λ m n. bit_xor (g m) (g n)) same f)
      | inr ne ↦ inl (record { at = o.at; b = o.b; within = omega (arith, o.within); first = o.first; second = o.second; total = o.total; is = o.is })
    ])
    (λ v o. record { at = o.at; b = o.b; within = omega (arith, o.within); first = o.first; second = o.second; total = o.total; is = o.is })
    (λ v e. record { at = at; b = b; within = omega arith; first = first; second = second; total = total; is = e })

-- or it is 0, or too large to leave one
pub rare_same : (g : ℕ → ℕ) (heaps : List ℕ) (rest at : ℕ) (x y : List Bool) → (1 ≤ slice_index heaps at → rest ≤ slice_index heaps at)
    → AddsMarks x y (IsRarePair g heaps rest at) → AddsMarks x y (IsRarePair g heaps rest (at + 1))
rare_same g heaps rest at x y large p =
    AddsMarks-as x y (IsRarePair g heaps rest at) (IsRarePair g heaps rest (at + 1)) p
    (λ v o. record { at = o.at; b = o.b; within = omega (arith, o.within); first = o.first; second = o.second; total = o.total; is = o.is })
    (λ v o. elim (cases_eq o.at at) [
      | inl e ↦
          let same : slice_index heaps o.at ≡ slice_index heaps at = ap (slice_index heaps) e in
          absurd (omega (arith, o.total, o.second, same, large (omega (arith, same, o.first))))
      | inr ne ↦ record { at = o.at; b = o.b; within = omega (arith, o.within); first = o.first; second = o.second; total = o.total; is = o.is }
    ])

-- nothing is marked
pub AddsMarks-none : (x : List Bool) (P : ℕ → Type 0) → ((v : ℕ) → P v → ⊥) → AddsMarks x x P
AddsMarks-none x P none = record {
  size = refl;
  marked = λ v l. ((λ m. inl m), (λ c. elim c [ inl j ↦ j | inr h ↦ absurd (none v h) ]));
}

-- one heap leaves a pair
pub with_heap : (g : ℕ → ℕ) (heap total b : ℕ) (x y : List Bool) → 1 ≤ heap → 1 ≤ b → heap + b ≡ total
    → AddsMarks x y (λ v. v ≡ bit_xor (g heap) (g b)) → AddsMarks x y (IsPairWith g heap total)
with_heap g heap total b x y first second sum p =
    AddsMarks-as x y (λ v. v ≡ bit_xor (g heap) (g b)) (IsPairWith g heap total) p
    (λ v e. record { b = b; first = first; second = second; sum = sum; is = e })
    (λ v o. let f : o.b ≡ b = omega (arith, o.sum) in o.is ∙ ap (λ m. bit_xor (g heap) (g m)) f)

-- or it is 0, or too large to leave one
pub without_heap : (g : ℕ → ℕ) (heap total : ℕ) (x : List Bool) → (1 ≤ heap → total ≤ heap) → AddsMarks x x (IsPairWith g heap total)
without_heap g heap total x large = AddsMarks-none x (IsPairWith g heap total) (λ v o. omega (arith, o.sum, o.second, large o.first))

rare_last : (g : ℕ → ℕ) (heaps : List ℕ) (total at v : ℕ) → IsRarePair g heaps total (at + 1) v → IsRarePair g heaps total at v ⊎ IsPairWith g (slice_index heaps at) total v
rare_last g heaps total at v o = elim (cases_eq o.at at) [
  | inl e ↦
      let same : slice_index heaps o.at ≡ slice_index heaps at = ap (slice_index heaps) e in
      inr (record { b = o.b; first = omega (arith, o.first, same); second = o.second; sum = omega (arith, o.total, same); is = o.is ∙ ap (λ m. bit_xor (g m) (g o.b)) same })
  | inr ne ↦ inl (record { at = o.at; b = o.b; within = omega (arith, o.within); first = o.first; second = o.second; total = o.total; is = o.is })
]

rare_before : (g : ℕ → ℕ) (heaps : List ℕ) (total at v : ℕ) → IsRarePair g heaps total at v → IsRarePair g heaps total (at + 1) v
rare_before g heaps total at v o = record { at = o.at; b = o.b; within = omega (arith, o.within); first = o.first; second = o.second; total = o.total; is = o.is }

rare_here : (g : ℕ → ℕ) (heaps : List ℕ) (total at v : ℕ) → IsPairWith g (slice_index heaps at) total v → IsRarePair g heaps total (at + 1) v
rare_here g heaps total at v o = record { at = at; b = o.b; within = omega arith; first = o.first; second = o.second; total = o.sum; is = o.is }

-- no heap of the list, and no total
pub rare_none : (g : ℕ → ℕ) (heaps : List ℕ) (rest : ℕ) (x : List Bool) → AddsMarks x x (IsBelow (λ more. IsRarePair g heaps (rest + more) 0) 3)
rare_none g heaps rest x =
    AddsMarks-none x (IsBelow (λ more. IsRarePair g heaps (rest + more) 0) 3) (λ v o. let pair : IsRarePair g heaps (rest + o.0) 0 v = o.2 in omega (arith, pair.within))

-- the next heap of the list, for three totals in a row
pub totals_more : (g : ℕ → ℕ) (heaps : List ℕ) (rest at : ℕ) (x y z : List Bool) → AddsMarks x y (IsBelow (λ more. IsRarePair g heaps (rest + more) at) 3)
    → AddsMarks y z (IsBelow (λ more. IsPairWith g (slice_index heaps at) (rest + more)) 3) → AddsMarks x z (IsBelow (λ more. IsRarePair g heaps (rest + more) (at + 1)) 3)
totals_more g heaps rest at x y z p q =
    AddsMarks-then x y z (IsBelow (λ more. IsRarePair g heaps (rest + more) at) 3) (IsBelow (λ more. IsPairWith g (slice_index heaps at) (rest + more)) 3)
    (IsBelow (λ more. IsRarePair g heaps (rest + more) (at + 1)) 3) p q
    (λ v o. elim (rare_last g heaps (rest + o.0) at v o.2) [ inl before ↦ inl (o.0, o.1, before) | inr here ↦ inr (o.0, o.1, here) ])
    (λ v o. (o.0, o.1, rare_before g heaps (rest + o.0) at v o.2))
    (λ v o. (o.0, o.1, rare_here g heaps (rest + o.0) at v o.2))

-- an option leaves at most one heap, or a pair of heaps
pub option_cases : (c : Code) (g : ℕ → ℕ) (n r v : ℕ) → r ≤ n → IsOptionBy c g n r v → IsOneHeapBy c g n r v ⊎ IsPairValue g (n - r) 1 ((n - r) / 2 + 1) v
option_cases c g n r v held o = elim (cases_eq o.a 0) [
  | inl none ↦ inl (o, none)
  | inr some ↦ inr (record {
    a = o.a;
    b = o.b;
    high = omega arith;
    low = omega (arith, o.parts.total, o.parts.ordered);
    ordered = o.parts.ordered;
    total = omega (arith, o.parts.total);
    is = o.is;
  })
]

-- without pairs there is at most one heap
pub option_one : (c : Code) (g : ℕ → ℕ) (n r v : ℕ) → (IsTrue (allows c r 2) → ⊥) → IsOptionBy c g n r v → IsOneHeapBy c g n r v
option_one c g n r v none_may o = elim (cases_eq o.a 0) [
  | inl none ↦ (o, none)
  | inr some ↦ absurd (none_may (subst (λ h. IsTrue (allows c r h)) (heaps_two o.a o.b (omega arith)) o.parts.allowed))
]

-- the pairs of heaps that an option leaves
pair_options : (c : Code) (g : ℕ → ℕ) (n r from end v : ℕ) → r ≤ n → 1 ≤ from → IsPairBy c g n from end r v → IsPairValue g (n - r) from end v
pair_options c g n r from end v held some (o, high, low) =
    record { a = o.a; b = o.b; high = high; low = low; ordered = o.parts.ordered; total = omega (arith, o.parts.total); is = o.is }

pub option_of_pair : (c : Code) (g : ℕ → ℕ) (n r a b v : ℕ) → r ≤ n → r ≤ len c → IsTrue (allows c r 2) → 1 ≤ a → a ≤ b → a + b ≡ n - r
    → v ≡ bit_xor (g a) (g b) → IsOptionBy c g n r v
option_of_pair c g n r a b v held few allowed some ordered total is = record {
  a = a;
  b = b;
  parts = record {
    ordered = ordered;
    total = omega arith;
    smaller = omega arith;
    few = few;
    allowed = subst (λ h. IsTrue (allows c r h)) (sym (heaps_two a b some)) allowed;
  };
  is = is;
}

pub pair_option : (c : Code) (g : ℕ → ℕ) (n r from end v : ℕ) → r ≤ n → r ≤ len c → IsTrue (allows c r 2) → 1 ≤ from → IsPairValue g (n - r) from end v → IsPairBy c g n from end r v
unfolding option_of_pair
pair_option c g n r from end v held few allowed some o =
    (option_of_pair c g n r o.a o.b v held few allowed (omega (arith, o.high)) o.ordered o.total o.is, o.high, o.low)

-- the pairs of one removal
pub pairs_by : (c : Code) (g : ℕ → ℕ) (n r from end : ℕ) (x y : List Bool) → r ≤ n → r ≤ len c → IsTrue (allows c r 2) → 1 ≤ from
    → AddsMarks x y (IsPairValue g (n - r) from end) → AddsMarks x y (IsPairBy c g n from end r)
pairs_by c g n r from end x y held few allowed some p =
    AddsMarks-as x y (IsPairValue g (n - r) from end) (IsPairBy c g n from end r) p
    (λ v o. pair_option c g n r from end v held few allowed some o) (λ v o. pair_options c g n r from end v held some o)

pub rare_pair : (g : ℕ → ℕ) (heaps : List ℕ) (rest a b v : ℕ) → Contains heaps a → 1 ≤ a → 1 ≤ b → a + b ≡ rest → v ≡ bit_xor (g a) (g b)
    → IsRarePair g heaps rest (length heaps) v
rare_pair g heaps rest a b v (at, within, found) first second total is =
    let same : slice_index heaps at ≡ a = get_or_default heaps at 0 a within ∙ found in
    record {
      at = at;
      b = b;
      within = within;
      first = omega (arith, same);
      second = second;
      total = omega (arith, same);
      is = is ∙ ap (λ m. bit_xor (g m) (g b)) (sym same);
    }

-- an option of at most one heap or of a heap of the list
pub rare_cases : (c : Code) (g : ℕ → ℕ) (n r : ℕ) (heaps : List ℕ) (v : ℕ) → r ≤ n → IsRareBy c g n heaps r v
    → IsOneHeapBy c g n r v ⊎ IsRarePair g heaps (n - r) (length heaps) v
rare_cases c g n r heaps v held (o, rare) = elim (cases_eq o.a 0) [
  | inl none ↦ inl (o, none)
  | inr some ↦
      let low : 1 ≤ o.a = omega arith in
      let total : o.a + o.b ≡ n - r = omega (arith, o.parts.total) in
      elim rare [
        | inl none ↦ inl (o, none)
        | inr listed ↦ elim listed [
          | inl smaller ↦ inr (rare_pair g heaps (n - r) o.a o.b v smaller low (omega (arith, o.parts.ordered)) total o.is)
          | inr larger ↦ inr (rare_pair g heaps (n - r) o.b o.a v larger (omega (arith, o.parts.ordered)) low (omega arith) (o.is ∙ xor_comm (g o.a) (g o.b)))
        ]
      ]
]

pub rare_option : (c : Code) (g : ℕ → ℕ) (n r : ℕ) (heaps : List ℕ) (v : ℕ) → r ≤ n → r ≤ len c → IsTrue (allows c r 2)
    → IsRarePair g heaps (n - r) (length heaps) v → IsRareBy c g n heaps r v
unfolding option_of_pair
rare_option c g n r heaps v held few allowed o =
    let a = slice_index heaps o.at in
    let listed : Contains heaps a = Contains-get_or heaps o.at 0 o.within in
    elim (cases_lt o.b a) [
      | inl l ↦ (option_of_pair c g n r o.b a v held few allowed o.second (omega arith) (omega (arith, o.total)) (o.is ∙ xor_comm (g a) (g o.b)), inr (inr listed))
      | inr ge ↦ (option_of_pair c g n r a o.b v held few allowed o.first (omega arith) o.total o.is, inr (inl listed))
    ]

-- what one removal marks of these
pub rare_by : (c : Code) (g : ℕ → ℕ) (n r : ℕ) (heaps : List ℕ) (x y z : List Bool) → r ≤ n → r ≤ len c → IsTrue (allows c r 2)
    → AddsMarks x y (IsOneHeapBy c g n r) → AddsMarks y z (IsRarePair g heaps (n - r) (length heaps)) → AddsMarks x z (IsRareBy c g n heaps r)
rare_by c g n r heaps x y z held few allowed p q =
    AddsMarks-then x y z (IsOneHeapBy c g n r) (IsRarePair g heaps (n - r) (length heaps)) (IsRareBy c g n heaps r) p q
    (λ v o. rare_cases c g n r heaps v held o) (λ v o. (o.0, inl o.1)) (λ v o. rare_option c g n r heaps v held few allowed o)

pub rare_by_one : (c : Code) (g : ℕ → ℕ) (n r : ℕ) (heaps : List ℕ) (x y : List Bool) → (IsTrue (allows c r 2) → ⊥)
    → AddsMarks x y (IsOneHeapBy c g n r) → AddsMarks x y (IsRareBy c g n heaps r)
rare_by_one c g n r heaps x y none_may p =
    AddsMarks-as x y (IsOneHeapBy c g n r) (IsRareBy c g n heaps r) p
    (λ v o. (o.0, inl o.1)) (λ v o. option_one c g n r v none_may o.0)

-- and what three removals mark of them
pub rare_three : (c : Code) (g : ℕ → ℕ) (n r rest : ℕ) (heaps : List ℕ) (x y z : List Bool) → rest + r + 2 ≡ n → r + 2 ≤ len c
    → ((s : ℕ) → r ≤ s → s < r + 3 → IsTrue (allows c s 2)) → AddsMarks x y (IsBelow (λ i. IsOneHeapBy c g n (r + i)) 3)
    → AddsMarks y z (IsBelow (λ i. IsRarePair g heaps (rest + i) (length heaps)) 3) → AddsMarks x z (IsBelow (λ i. IsRareBy c g n heaps (r + i)) 3)
rare_three c g n r rest heaps x y z total few allowed p q =
    AddsMarks-then x y z (IsBelow (λ i. IsOneHeapBy c g n (r + i)) 3) (IsBelow (λ i. IsRarePair g heaps (rest + i) (length heaps)) 3)
    (IsBelow (λ i. IsRareBy c g n heaps (r + i)) 3) p q
    (λ v o. elim (rare_cases c g n (r + o.0) heaps v (omega (arith, o.1)) o.2) [
      | inl one ↦ inl (o.0, o.1, one)
      | inr pair ↦
          let is : n - (r + o.0) ≡ rest + (2 - o.0) = omega (arith, o.1) in
          inr (2 - o.0, omega arith, subst (λ t. IsRarePair g heaps t (length heaps) v) is pair)
    ])
    (λ v o. (o.0, o.1, (o.2.0, inl o.2.1)))
    (λ v o.
    let is : rest + o.0 ≡ n - (r + (2 - o.0)) = omega (arith, o.1) in (
      2 - o.0,
      omega arith,
      rare_option c g n (r + (2 - o.0)) heaps v (omega arith) (omega arith) (allowed (r + (2 - o.0)) (omega arith) (omega arith))
          (subst (λ t. IsRarePair g heaps t (length heaps) v) is o.2),
    ))

-- no pair
pub pairs_by_none : (c : Code) (g : ℕ → ℕ) (n r from end : ℕ) (x y : List Bool) → (IsTrue (allows c r 2) → ⊥) → 1 ≤ from
    → AddsMarks x y (IsBelow (IsPairBy c g n from end) r) → AddsMarks x y (IsBelow (IsPairBy c g n from end) (r + 1))
pairs_by_none c g n r from end x y none_may some p =
    AddsMarks-as x y (IsBelow (IsPairBy c g n from end) r) (IsBelow (IsPairBy c g n from end) (r + 1)) p
    (λ v o. (o.0, omega (arith, o.1), o.2))
    (λ v o. elim (cases_eq o.0 r) [
      | inl e ↦
          let here : IsPairBy c g n from end r v = subst (λ s. IsPairBy c g n from end s v) e o.2 in
          absurd (none_may (subst (λ h. IsTrue (allows c r h)) (heaps_two here.0.a here.0.b (omega (arith, here.1))) here.0.parts.allowed))
      | inr ne ↦ (o.0, omega (arith, o.1), o.2)
    ])

-- the option of at most one heap leaves all that is not removed
pub one_heap_to : (c : Code) (g : ℕ → ℕ) (n r v : ℕ) → r ≤ n → 0 < r → r ≤ len c → IsTrue (allows c r (heaps_left 0 (n - r)))
    → v ≡ bit_xor (g 0) (g (n - r)) → IsOneHeapBy c g n r v
one_heap_to c g n r v held some few allowed is = (
  record {
    a = 0;
    b = n - r;
    parts = record { ordered = omega arith; total = omega arith; smaller = omega arith; few = few; allowed = allowed };
    is = is;
  },
  refl,
)

pub one_heap_from : (c : Code) (g : ℕ → ℕ) (n r v : ℕ) → IsOneHeapBy c g n r v → v ≡ bit_xor (g 0) (g (n - r))
one_heap_from c g n r v (o, none) =
    let rest : o.b ≡ n - r = omega (arith, o.parts.total) in
    o.is ∙ ap₂ (λ a b. bit_xor (g a) (g b)) none rest

-- a walk over the numbers of removed beans
pub removals_more : (P : ℕ → ℕ → Type 0) (r : ℕ) (x y z : List Bool) → AddsMarks x y (IsBelow P r) → AddsMarks y z (P r) → AddsMarks x z (IsBelow P (r + 1))
removals_more P r x y z p q =
    AddsMarks-then x y z (IsBelow P r) (P r) (IsBelow P (r + 1)) p q
    (λ v o. elim (cases_eq o.0 r) [ inl e ↦ inr (subst (λ s. P s v) e o.2) | inr ne ↦ inl (o.0, omega (arith, o.1), o.2) ])
    (λ v o. (o.0, omega (arith, o.1), o.2))
    (λ v o. (r, omega arith, o))

-- and over three of them
pub removals_three : (P : ℕ → ℕ → Type 0) (r : ℕ) (x y z : List Bool) → AddsMarks x y (IsBelow P r) → AddsMarks y z (IsBelow (λ i. P (r + i)) 3) → AddsMarks x z (IsBelow P (r + 3))
removals_three P r x y z p q =
    AddsMarks-then x y z (IsBelow P r) (IsBelow (λ i. P (r + i)) 3) (IsBelow P (r + 3)) p q
    (λ v o. elim (cases_lt o.0 r) [
      | inl low ↦ inl (o.0, low, o.2)
      | inr high ↦
          let is : o.0 ≡ r + (o.0 - r) = omega (arith, high) in
          inr (o.0 - r, omega (arith, o.1, high), subst (λ s. P s v) is o.2)
    ])
    (λ v o. (o.0, omega (arith, o.1), o.2))
    (λ v o. (r + o.0, omega (arith, o.1), o.2))

-- the exclusive or of two values is in the table
pub xor_within : (values : List ℕ) (size a b : ℕ) → IsTableFor values size → a < length values → b < length values
    → bit_xor (slice_index values a) (slice_index values b) < size
xor_within values size a b table l k = rw table.power (xor_lt table.bits _ _ (table.small a 0 l) (table.small b 0 k))

-- with a further value that is not above the table's length, a table twice as long serves
pub table_grows : (values : List ℕ) (size v : ℕ) → IsTableFor values size → v ≤ size → IsTableFor (values ++ v ∷ []) (size * 2)
table_grows values size v table e =
    let double : 2 ^ (table.bits + 1) ≡ 2 ^ table.bits * 2 = ap (λ n. 2 ^ n) (let s : table.bits + 1 ≡ suc table.bits = omega arith in s) ∙ pow-suc 2 table.bits in
    let some : 0 < 2 ^ table.bits = pow_pos table.bits in
    record {
      bits = table.bits + 1;
      power = omega (arith, table.power, double);
      small = All-push (λ w. w < 2 ^ (table.bits + 1)) values v
          (All-weaker (λ w. w < 2 ^ table.bits) (λ w. w < 2 ^ (table.bits + 1)) (λ w l. omega (arith, double)) values table.small)
          (omega (arith, table.power, double));
    }

-- and with one below it the table itself
pub table_stays : (values : List ℕ) (size v : ℕ) → IsTableFor values size → v < size → IsTableFor (values ++ v ∷ []) size
table_stays values size v table e = record {
  bits = table.bits;
  power = table.power;
  small = All-push (λ w. w < 2 ^ table.bits) values v table.small (omega (arith, table.power));
}
