-- What is known of the pairs of a total, and of the options that leave them.
use Rattle.std.proofs.Common.{◌≡◌, ℕ, ◌+◌, ◌-◌, ◌/◌, ◌<◌, ◌≤◌, ◌⊎◌, ◌++◌, ◌∷◌, [], if◌then◌else◌, IsTrue, Bool, true, false, List, length, length-append, min, take, replicate, slice_index, slice_index_or, ◌||◌, bit_and, bit_xor, count_ones, inl, inr, refl, sym, ap, ap₂, ◌∙◌, subst, arith}
use Rattle.std.specs.List.{All}
use Rattle.std.proofs.lemmas.Bool.{cases_Bool, cases_eq, cases_lt, false≢true, or_cases, or_left, or_right}
use Rattle.std.proofs.lemmas.List.{get_or-set_other, get_or-set_same, length-set, take_all, take-append-le}
use Rattle.std.proofs.lemmas.Nat.{xor_comm}
use Rattle.std.proofs.Math.ListN.{get_or-replicate, length-replicate, set}
use Rattle.oct_code.specs.Code.{Code, len, allows}
use Rattle.oct_mex.specs.Marks.{AddsMarks, IsBelow, IsMarked, IsOneHeapBy, IsOptionBy, IsPairValue, IsRarePair, IsTableFor}
use Rattle.oct_mex.specs.Mex.{IsMex}
use Rattle.oct_mex.specs.NimValues.{IsOptionValue, nim_value, nim_values}
use Rattle.oct_mex.specs.Rare.{is_rare, IsFit, ListsRare}
use Rattle.oct_mex.specs.Totals.{AddsTotals, HasRare, HasTotals, IsSum, IsTable, Knows}
use Rattle.oct_mex.specs.declared.mask.Mask.{Mask}
use Rattle.oct_mex.specs.declared.totals.Table.{Table}
use Rattle.oct_mex.proofs.Marked.{class_even, few_removed, option_value}
use Rattle.oct_mex.proofs.Marking.{option_of_pair, pair_within, rare_pair, xor_within}
use Rattle.oct_mex.proofs.Moves.{heaps_two, parts}
use Rattle.oct_mex.proofs.NimValues.{get-before}
use Rattle.oct_mex.proofs.Parity.{xor_even}
use Rattle.oct_mex.proofs.Pushed.{values_push}

blank : (size v : ℕ) → v < length (replicate size false) → IsMarked (replicate size false) v → ⊥
blank size v low m = false≢true (sym (get_or-replicate size v false false (omega (arith, length-replicate size false))) ∙ m)

-- ---- an element of a list

pub held_at : {X : Type 0} (P : X → Type 0) (xs : List X) (i : ℕ) (x : X) → i < length xs → x ≡ slice_index_or xs i x → All P xs → P x
held_at P xs i x low is all = subst P (sym is) (all i x low)

-- ---- a table

-- what is written through a slice of the whole list
pub written : {X : Type 0} (n : ℕ) (xs ys : List X) → length xs ≡ n → take n (xs ++ ys) ≡ xs
written n xs ys size = take-append-le n xs ys (omega arith) ∙ take_all n xs (omega arith)

-- a list that is made anew has no marks
pub remade : (b : Bool) (n m : ℕ) (old new : List Bool) → old ≡ [] → new ≡ (if b then take n old ++ replicate m false else old) → (v : ℕ) → v < length new → IsMarked new v → ⊥
remade true n m old new none is v low marked =
    let e : new ≡ replicate m false = is ∙ ap (λ x. take n x ++ replicate m false) none ∙ ap (λ x. x ++ replicate m false) (take_all n [] (omega arith)) in
    blank m v (subst (λ x. v < length x) e low) (subst (λ x. IsMarked x v) e marked)
remade false n m old new none is v low marked = omega (arith, ap length (is ∙ none), low)

-- what was marked of the others so far, and one place more
pub or_more : (x y others : List Bool) (at : ℕ) → at < length x → AddsMarks x y (λ v. (v < at) × IsMarked others v)
    → AddsMarks x (set y at (slice_index_or y at false || slice_index_or others at false)) (λ v. (v < at + 1) × IsMarked others v)
or_more x y others at low adds =
    let size : length y ≡ length x = adds.size in
    let b = slice_index_or y at false || slice_index_or others at false in
    record {
      size = length-set y at b ∙ size;
      marked = λ v l. elim (cases_eq v at) [
        | inl e ↦
            let here : slice_index_or (set y at b) v false ≡ b = ap (λ k. slice_index_or (set y at b) k false) e ∙ get_or-set_same y at b false (omega arith) in (
              (λ m. elim (or_cases (slice_index_or y at false) (slice_index_or others at false) (sym here ∙ m)) [
                | inl old ↦ elim ((adds.marked v l).0 (ap (λ k. slice_index_or y k false) e ∙ old)) [ inl first ↦ inl first | inr more ↦ inr (omega arith, more.1) ]
                | inr other ↦ inr (omega arith, ap (λ k. slice_index_or others k false) e ∙ other)
              ]),
              (λ o. here ∙ elim o [
                | inl first ↦ or_left (slice_index_or y at false) (slice_index_or others at false) (ap (λ k. slice_index_or y k false) (sym e) ∙ (adds.marked v l).1 (inl first))
                | inr other ↦ or_right (slice_index_or y at false) (slice_index_or others at false) (ap (λ k. slice_index_or others k false) (sym e) ∙ other.1)
              ]),
            )
        | inr ne ↦
            let there : slice_index_or (set y at b) v false ≡ slice_index_or y v false = get_or-set_other y at v b false ne in (
              (λ m. elim ((adds.marked v l).0 (sym there ∙ m)) [ inl first ↦ inl first | inr more ↦ inr (omega (arith, more.0), more.1) ]),
              (λ o. there ∙ (adds.marked v l).1 (elim o [ inl first ↦ inl first | inr other ↦ inr (omega (arith, other.0, ne), other.1) ])),
            )
      ];
    }

-- of no pairs
pub knows_none : (mask : Mask) (values : List ℕ) (marks misses : List Bool) → ((v : ℕ) → v < length marks → IsMarked marks v → ⊥) → ((v : ℕ) → v < length misses → IsMarked misses v → ⊥)
    → Knows mask values 0 1 marks misses
knows_none mask values marks misses unmarked unmissed = record {
  some = omega arith;
  held = omega arith;
  sound = λ v low m. absurd (unmarked v low m);
  rare = λ v low o has. absurd (omega (arith, o.high, o.ordered, o.total));
  pairs = λ v low o. absurd (omega (arith, o.high, o.low));
  missed = λ v low m o. unmissed v low m;
}

pub knows_replicated : (mask : Mask) (values : List ℕ) (size more : ℕ) → Knows mask values 0 1 (replicate size false) (replicate more false)
knows_replicated mask values size more = knows_none mask values (replicate size false) (replicate more false) (blank size) (blank more)

-- that turns to a total: without a mask
pub knows_bare : (mask : Mask) (values : List ℕ) (total size more : ℕ) → mask.bits ≤ 0 → total ≤ length values → Knows mask values total 1 (replicate size false) (replicate more false)
knows_bare mask values total size more none held = record {
  some = omega arith;
  held = held;
  sound = λ v low m. absurd (blank size v low m);
  rare = λ v low o has. absurd (omega (arith, has.0, none));
  pairs = λ v low o. absurd (omega (arith, o.high, o.low));
  missed = λ v low m o. blank more v low m;
}

-- or with the pairs of the listed heaps
pub knows_listed : (mask : Mask) (values heaps : List ℕ) (n total size more : ℕ) (marks : List Bool) → ListsRare mask values n heaps → total ≤ n → n ≤ length values
    → AddsMarks (replicate size false) marks (IsRarePair (slice_index values) heaps total (length heaps)) → Knows mask values total 1 marks (replicate more false)
knows_listed mask values heaps n total size more marks listed held whole adds =
    let g = slice_index values in
    let same : length (replicate size false) ≡ length marks = sym adds.size in
    record {
      some = omega arith;
      held = omega arith;
      sound = λ v low m. elim ((adds.marked v (omega arith)).0 m) [
        | inl old ↦ absurd (blank size v (omega arith) old)
        | inr o ↦
            let a = slice_index heaps o.at in
            elim (cases_lt o.b a) [
              | inl l ↦ record { a = o.b; b = a; high = o.second; low = omega (arith, o.total); ordered = omega arith; total = omega (arith, o.total); is = o.is ∙ xor_comm (g a) (g o.b) }
              | inr ge ↦ record { a = a; b = o.b; high = o.first; low = omega (arith, o.total); ordered = ge; total = o.total; is = o.is }
            ]
      ];
      rare = λ v low o has.
          let first = o.high in
          let ordered = o.ordered in
          let all = o.total in
          (adds.marked v (omega arith)).1 (inr (elim has.1 [
            | inl a ↦ rare_pair g heaps total o.a o.b v (listed has.0 o.a first (omega arith) a) first (omega arith) all o.is
            | inr b ↦ rare_pair g heaps total o.b o.a v (listed has.0 o.b (omega arith) (omega arith) b) (omega arith) first (omega arith) (o.is ∙ xor_comm (g o.a) (g o.b))
          ]));
      pairs = λ v low o. absurd (omega (arith, o.high, o.low));
      missed = λ v low m o. blank more v low m;
    }

-- with further pairs
pub knows_pairs : (mask : Mask) (values : List ℕ) (total from end : ℕ) (marks more misses : List Bool) → from ≤ end → Knows mask values total from marks misses
    → AddsMarks marks more (IsPairValue (slice_index values) total from end) → Knows mask values total end more misses
knows_pairs mask values total from end marks more misses ordered knows adds =
    let size : length more ≡ length marks = adds.size in
    let some = knows.some in
    record {
      some = omega arith;
      held = knows.held;
      sound = λ v low m. elim ((adds.marked v (omega arith)).0 m) [
        | inl old ↦ knows.sound v (omega arith) old
        | inr o ↦ pair_within (slice_index values) total 1 (total / 2 + 1) v o (omega (arith, o.high)) (omega (arith, o.ordered, o.total))
      ];
      rare = λ v low o has. (adds.marked v (omega arith)).1 (inl (knows.rare v (omega arith) o has));
      pairs = λ v low o. (adds.marked v (omega arith)).1 (elim (cases_lt o.a from) [
        | inl early ↦ inl (knows.pairs v (omega arith) (pair_within (slice_index values) total 1 from v o o.high early))
        | inr late ↦ inr (pair_within (slice_index values) total from end v o late o.low)
      ]);
      missed = knows.missed;
    }

-- with a nim-sum that was sought
pub knows_met : (mask : Mask) (values : List ℕ) (total end w : ℕ) (marks more misses : List Bool) → Knows mask values total end marks misses → IsSum values total w
    → AddsMarks marks more (λ v. v ≡ w) → Knows mask values total end more misses
knows_met mask values total end w marks more misses knows met adds =
    let size : length more ≡ length marks = adds.size in
    record {
      some = knows.some;
      held = knows.held;
      sound = λ v low m. elim ((adds.marked v (omega arith)).0 m) [ inl old ↦ knows.sound v (omega arith) old | inr e ↦ subst (IsSum values total) (sym e) met ];
      rare = λ v low o has. (adds.marked v (omega arith)).1 (inl (knows.rare v (omega arith) o has));
      pairs = λ v low o. (adds.marked v (omega arith)).1 (inl (knows.pairs v (omega arith) o));
      missed = knows.missed;
    }

-- and one that is none
pub knows_missed : (mask : Mask) (values : List ℕ) (total end w : ℕ) (marks misses more : List Bool) → Knows mask values total end marks misses → (IsSum values total w → ⊥)
    → AddsMarks misses more (λ v. v ≡ w) → Knows mask values total end marks more
knows_missed mask values total end w marks misses more knows unmet adds =
    let size : length more ≡ length misses = adds.size in
    record {
      some = knows.some;
      held = knows.held;
      sound = knows.sound;
      rare = knows.rare;
      pairs = knows.pairs;
      missed = λ v low m o. elim ((adds.marked v (omega arith)).0 m) [ inl old ↦ knows.missed v (omega arith) old o | inr e ↦ unmet (subst (IsSum values total) e o) ];
    }

-- a value that is not marked is sought in the pairs from the end on
pub sought : (mask : Mask) (values : List ℕ) (total end w : ℕ) (marks misses : List Bool) → Knows mask values total end marks misses → w < length marks → (IsMarked marks w → ⊥)
    → (IsPairValue (slice_index values) total end (total / 2 + 1) w → ⊥) → IsSum values total w → ⊥
sought mask values total end w marks misses knows low unmarked unmet o = elim (cases_lt o.a end) [
  | inl early ↦ unmarked (knows.pairs w low (pair_within (slice_index values) total 1 end w o o.high early))
  | inr late ↦ unmet (pair_within (slice_index values) total end (total / 2 + 1) w o late o.low)
]

-- a further value changes no pair
module _ (values : List ℕ) (u total : ℕ) (held : total ≤ length values) where
  abbrev more : List ℕ
  more = values ++ u ∷ []

  same : (h : ℕ) → h < total → slice_index more h ≡ slice_index values h
  same h low = get-before values (u ∷ []) h (omega arith)

  down : (end v : ℕ) (o : IsPairValue (slice_index more) total 1 end v) → (slice_index more o.a ≡ slice_index values o.a) × (slice_index more o.b ≡ slice_index values o.b)
  down end v o = (same o.a (omega (arith, o.high, o.ordered, o.total)), same o.b (omega (arith, o.high, o.total)))

  pub pair_down : (end v : ℕ) → IsPairValue (slice_index more) total 1 end v → IsPairValue (slice_index values) total 1 end v
  pair_down end v o =
      let e = down end v o in
      record { a = o.a; b = o.b; high = o.high; low = o.low; ordered = o.ordered; total = o.total; is = o.is ∙ ap₂ bit_xor e.0 e.1 }

  pub pair_up : (end v : ℕ) → IsPairValue (slice_index values) total 1 end v → IsPairValue (slice_index more) total 1 end v
  pair_up end v o = record {
    a = o.a;
    b = o.b;
    high = o.high;
    low = o.low;
    ordered = o.ordered;
    total = o.total;
    is = o.is ∙ ap₂ bit_xor (sym (same o.a (omega (arith, o.high, o.ordered, o.total)))) (sym (same o.b (omega (arith, o.high, o.total))));
  }

  pub rare_down : (mask : Mask) (end v : ℕ) (o : IsPairValue (slice_index more) total 1 end v) → HasRare mask more o.a o.b → HasRare mask values o.a o.b
  rare_down mask end v o has =
      let e = down end v o in (
        has.0,
        elim has.1 [
          | inl a ↦ inl (subst (λ x. is_rare mask o.a x ≡ true) e.0 a)
          | inr b ↦ inr (subst (λ x. is_rare mask o.b x ≡ true) e.1 b)
        ],
      )

pub knows_push : (mask : Mask) (values : List ℕ) (u total end : ℕ) (marks misses : List Bool) → Knows mask values total end marks misses → Knows mask (values ++ u ∷ []) total end marks misses
unfolding pair_down
knows_push mask values u total end marks misses knows =
    let held = knows.held in
    let far = total / 2 + 1 in
    record {
      some = knows.some;
      held = omega (arith, length-append values (u ∷ []));
      sound = λ v low m. pair_up values u total held far v (knows.sound v low m);
      rare = λ v low o has. knows.rare v low (pair_down values u total held far v o) (rare_down values u total held mask far v o has);
      pairs = λ v low o. knows.pairs v low (pair_down values u total held end v o);
      missed = λ v low m o. knows.missed v low m (pair_down values u total held far v o);
    }

pub tables_push : {A : Type 0} (mask : Mask) (values : List ℕ) (u : ℕ) (tables : List (Table A)) → All (IsTable mask values) tables → All (IsTable mask (values ++ u ∷ [])) tables
tables_push mask values u tables all i d low = knows_push mask values u (slice_index_or tables i d).total (slice_index_or tables i d).end (slice_index_or tables i d).marks.items (slice_index_or tables i d).misses.items (all i d low)

-- nor does the next nim-value
pub tables_next : {A : Type 0} (mask : Mask) (c : Code) (n m : ℕ) (tables : List (Table A)) → m ≡ n + 1 → All (IsTable mask (nim_values c n)) tables → All (IsTable mask (nim_values c m)) tables
tables_next mask c n m tables next all =
    subst (λ xs. All (IsTable mask xs) tables) (values_push c n (nim_value c n) (nim_values c n) refl refl ∙ ap (nim_values c) (sym next)) (tables_push mask (nim_values c n) (nim_value c n) tables all)

-- ---- the options of a heap

-- the pair that an option leaves
pub sum_of : (c : Code) (values : List ℕ) (n r v : ℕ) (o : IsOptionBy c (slice_index values) n r v) → 1 ≤ o.a → IsSum values (n - r) v
sum_of c values n r v o some =
    let total = o.parts.total in
    let ordered = o.parts.ordered in
    record { a = o.a; b = o.b; high = some; low = omega arith; ordered = o.parts.ordered; total = omega arith; is = o.is }

pub option_of : (c : Code) (values : List ℕ) (n r v : ℕ) → r ≤ n → r ≤ len c → IsTrue (allows c r 2) → IsSum values (n - r) v → IsOptionValue c (slice_index values) n v
option_of c values n r v held few allowed o =
    option_value c (slice_index values) n r v (option_of_pair c (slice_index values) n r o.a o.b v held few allowed o.high o.ordered o.total o.is)

pub allowed_of : (c : Code) (g : ℕ → ℕ) (n r v : ℕ) (o : IsOptionBy c g n r v) → 1 ≤ o.a → IsTrue (allows c r 2)
allowed_of c g n r v o some = subst (λ h. IsTrue (allows c r h)) (heaps_two o.a o.b some) o.parts.allowed

module _ (c : Code) (values : List ℕ) (n : ℕ) (mask : Mask) where
  abbrev g : ℕ → ℕ
  g = slice_index values

  -- no removal is done yet
  pub adds_none : (end : ℕ) (marks : List Bool) → AddsTotals c values n mask end 0 marks marks
  adds_none end marks = record {
    size = refl;
    kept = λ v low m. m;
    sound = λ v low m. inl m;
    rare = λ v r low less o some has. absurd (omega arith);
    pairs = λ v r low less o. absurd (omega arith);
  }

  -- a removal after which no two heaps may be left
  pub adds_skipped : (end r : ℕ) (x y : List Bool) → (IsTrue (allows c r 2) → ⊥) → AddsTotals c values n mask end r x y → AddsTotals c values n mask end (r + 1) x y
  adds_skipped end r x y none_may adds = record {
    size = adds.size;
    kept = adds.kept;
    sound = adds.sound;
    rare = λ v s low less o some has. elim (cases_eq s r) [
      | inl e ↦ absurd (none_may (subst (λ k. IsTrue (allows c k 2)) e (allowed_of c g n s v o some)))
      | inr ne ↦ adds.rare v s low (omega arith) o some has
    ];
    pairs = λ v s low less o. elim (cases_eq s r) [
      | inl e ↦ absurd (none_may (subst (λ k. IsTrue (allows c k 2)) e (allowed_of c g n s v o.0 o.1)))
      | inr ne ↦ adds.pairs v s low (omega arith) o
    ];
  }

  -- what the table of its total marks
  pub adds_total : (end far r : ℕ) (x y z marks misses : List Bool) → r ≤ n → r ≤ len c → IsTrue (allows c r 2) → end ≤ far → length marks ≡ length x
      → AddsTotals c values n mask end r x y → Knows mask values (n - r) far marks misses → AddsMarks y z (IsMarked marks) → AddsTotals c values n mask end (r + 1) x z
  adds_total end far r x y z marks misses held few allowed wide long adds knows more =
      let size : length y ≡ length x = adds.size in
      record {
        size = more.size ∙ size;
        kept = λ v low m. (more.marked v (omega arith)).1 (inl (adds.kept v low m));
        sound = λ v low m. elim ((more.marked v (omega arith)).0 m) [
          | inl old ↦ adds.sound v low old
          | inr met ↦ inr (option_of c values n r v held few allowed (knows.sound v (omega arith) met))
        ];
        rare = λ v s low less o some has. (more.marked v (omega arith)).1 (elim (cases_eq s r) [
          | inl e ↦
              let ordered = o.parts.ordered in
              let total = o.parts.total in
              let pair : IsSum values (n - r) v = record { a = o.a; b = o.b; high = some; low = omega arith; ordered = ordered; total = omega arith; is = o.is } in
              inr (knows.rare v (omega arith) pair has)
          | inr ne ↦ inl (adds.rare v s low (omega arith) o some has)
        ]);
        pairs = λ v s low less o. (more.marked v (omega arith)).1 (elim (cases_eq s r) [
          | inl e ↦
              let t : n - s ≡ n - r = ap (λ k. n - k) e in
              let ordered = o.0.parts.ordered in
              let total = o.0.parts.total in
              inr (knows.pairs v (omega arith) (record { a = o.0.a; b = o.0.b; high = o.1; low = omega (arith, o.2); ordered = ordered; total = omega arith; is = o.0.is }))
          | inr ne ↦ inl (adds.pairs v s low (omega arith) o)
        ]);
      }

  -- ---- the table of marks

  -- first the options of at most one heap, then the totals
  pub totals_first : (size end : ℕ) (x y : List Bool) → AddsMarks (replicate size false) x (IsBelow (IsOneHeapBy c g n) (min (len c) n + 1))
      → AddsTotals c values n mask end (min (len c) n + 1) x y → HasTotals c values n mask end y
  totals_first size end x y one adds =
      let same : length x ≡ length (replicate size false) = one.size in
      let last : length y ≡ length x = adds.size in
      record {
        sound = λ v low m. elim (adds.sound v (omega arith) m) [
          | inl old ↦ elim ((one.marked v (omega arith)).0 old) [ inl none ↦ absurd (blank size v (omega arith) none) | inr o ↦ option_value c g n o.0 v o.2.0 ]
          | inr o ↦ o
        ];
        one = λ v r low o. adds.kept v (omega arith) ((one.marked v (omega arith)).1 (inr (r, few_removed c g n r v o.0, o)));
        rare = λ v r low o some has. adds.rare v r (omega arith) (few_removed c g n r v o) o some has;
        pairs = λ v r low o. adds.pairs v r (omega arith) (few_removed c g n r v o.0) o;
      }

  -- then a round
  pub totals_round : (end next : ℕ) (x y : List Bool) → HasTotals c values n mask end x → AddsTotals c values n mask next (min (len c) n + 1) x y → HasTotals c values n mask next y
  totals_round end next x y has adds =
      let last : length y ≡ length x = adds.size in
      record {
        sound = λ v low m. elim (adds.sound v (omega arith) m) [ inl old ↦ has.sound v (omega arith) old | inr o ↦ o ];
        one = λ v r low o. adds.kept v (omega arith) (has.one v r (omega arith) o);
        rare = λ v r low o some is. adds.rare v r (omega arith) (few_removed c g n r v o) o some is;
        pairs = λ v r low o. adds.pairs v r (omega arith) (few_removed c g n r v o.0) o;
      }

  -- or a value of an option
  pub totals_value : (end v : ℕ) (x y : List Bool) → HasTotals c values n mask end x → IsOptionValue c g n v → AddsMarks x y (λ w. w ≡ v) → HasTotals c values n mask end y
  totals_value end v x y has option adds =
      let size : length y ≡ length x = adds.size in
      record {
        sound = λ w low m. elim ((adds.marked w (omega arith)).0 m) [ inl old ↦ has.sound w (omega arith) old | inr e ↦ subst (IsOptionValue c g n) (sym e) option ];
        one = λ w r low o. (adds.marked w (omega arith)).1 (inl (has.one w r (omega arith) o));
        rare = λ w r low o some is. (adds.marked w (omega arith)).1 (inl (has.rare w r (omega arith) o some is));
        pairs = λ w r low o. (adds.marked w (omega arith)).1 (inl (has.pairs w r (omega arith) o));
      }

  -- the first value that is not marked is the mex, if each option of two heaps that has it would be marked
  pub totals_mex : (end m : ℕ) (marks : List Bool) → length values ≡ n → IsTableFor values (length marks) → HasTotals c values n mask end marks
      → m ≤ length marks → ((v : ℕ) → v < m → IsMarked marks v) → (m < length marks → IsMarked marks m → ⊥)
      → (m < length marks → (r : ℕ) (o : IsOptionBy c g n r m) → 1 ≤ o.a → HasRare mask values o.a o.b ⊎ (o.a < end))
      → IsMex (IsOptionValue c g n) m
  totals_mex end m marks size table has within low none enough = record {
    excluded = λ o.
        let r = o.move.removed in
        let p = parts c n o.a o.b o.move in
        let by : IsOptionBy c g n r m = record { a = o.a; b = o.b; parts = p; is = o.is } in
        let inside : m < length marks = rw o.is (xor_within values (length marks) o.a o.b table (omega (arith, size, p.ordered, p.smaller)) (omega (arith, size, p.smaller))) in
        none inside (elim (cases_eq o.a 0) [
          | inl zero ↦ has.one m r inside (by, zero)
          | inr some ↦ elim (enough inside r by (omega arith)) [ inl rare ↦ has.rare m r inside by (omega arith) rare | inr early ↦ has.pairs m r inside (by, omega arith, early) ]
        ]);
    below = λ v l. has.sound v (omega arith) (low v l);
  }

  -- an option of two heaps whose value is common at this heap has a rare heap
  pub settled_rare : (v r : ℕ) → IsFit c mask → 0 < mask.bits → is_rare mask n v ≡ false → (o : IsOptionBy c g n r v) → 1 ≤ o.a → HasRare mask values o.a o.b
  settled_rare v r fit some common o first =
      let allowed = allowed_of c g n r v o first in (
        some,
        elim (cases_Bool (is_rare mask o.a (g o.a))) [
          | inl rare ↦ inl rare
          | inr not_a ↦ elim (cases_Bool (is_rare mask o.b (g o.b))) [
            | inl rare ↦ inr rare
            | inr not_b ↦ absurd (false≢true (sym common ∙ ap (is_rare mask n) o.is
                ∙ class_even mask.parity mask.turn n r o.a o.b (count_ones (bit_and mask.bits (g o.a))) (count_ones (bit_and mask.bits (g o.b))) (count_ones (bit_and mask.bits (bit_xor (g o.a) (g o.b))))
                (λ counts. fit counts r o.parts.few allowed) o.parts.total (xor_even mask.bits (g o.a) (g o.b)) not_a not_b))
          ]
        ],
      )
