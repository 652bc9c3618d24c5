-- The moves in a position rise, so that the first that wins comes before each other.
use Rattle.std.proofs.Common.{◌≡◌, ℕ, zero, suc, ◌+◌, ◌-◌, ◌/◌, ◌<◌, Bool, true, false, not, ◌&&◌, cond, leb, if◌then◌else◌, List, [], ◌∷◌, ◌++◌, map, length, slice_index, min, Some, inl, inr, refl, sym, ap, ◌∙◌, subst, arith}
use Rattle.std.proofs.lemmas.Bool.{false≢true, le-leb}
use Rattle.std.proofs.lemmas.Simd.{map-map}
use Rattle.std.specs.List.{find, flat_map, range_with_len}
use Rattle.oct_code.specs.Code.{Code, len, allows}
use Rattle.oct_mex.specs.Moves.{Heaps, IsMove, leavings, splits}
use Rattle.oct_code.proofs.Members.{In, Contains-from_In, In-from_Contains, In-append_cases, In-append_left, In-append_right, In-flat_map, In-flat_map_source, In-map, In-map_source, In-range, In-range_bounds}
use Rattle.oct_mex.proofs.Moves.{In-if, In-leavings}
use Rattle.oct_period.specs.MoveLaws.{IsBefore, MovesInAreTheMoves, MovesLeaveThePositionsAfter, NoneWinsBefore, NoneWinsAtZero}
use Rattle.oct_period.specs.Moving.{move_with, moves_removing, moves_at, moves_from, moves_in, position_after, IsMoveIn}
use Rattle.oct_period.specs.Winning.{Position, wins}
use Rattle.oct_period.specs.declared.moving.Move.{Move}
use Rattle.oct_period.proofs.Afters.{afters, at_place, move_from, move_in, none_at_zero, zero_at_none}
use Rattle.oct_period.proofs.Leavings.{one_is}

-- ---- the order

not_back : (k m : Move) → IsBefore k m → IsBefore m k → ⊥
not_back k m (inl a) (inl b) = omega arith
not_back k m (inl a) (inr (same, b)) = omega arith
not_back k m (inr (same, a)) (inl b) = omega arith
not_back k m (inr (same, inl a)) (inr (also, inl b)) = omega arith
not_back k m (inr (same, inl a)) (inr (also, inr (removed, b))) = omega arith
not_back k m (inr (same, inr (removed, a))) (inr (also, inl b)) = omega arith
not_back k m (inr (same, inr (removed, a))) (inr (also, inr (as_many, b))) = omega arith

-- each comes before all that follow it
abbrev Rises : List Move → Type 0
Rises [] = Unit {0}
Rises (m ∷ ms) = ((k : Move) → In k ms → IsBefore m k) × Rises ms

rises-append : (xs ys : List Move) → Rises xs → Rises ys → ((x y : Move) → In x xs → In y ys → IsBefore x y) → Rises (xs ++ ys)
rises-append [] ys first second across = second
rises-append (x ∷ xs) ys first second across = (
  (λ k among. elim (In-append_cases k xs ys among) [ inl here ↦ first.0 k here | inr there ↦ across x k (inl refl) there ]),
  rises-append xs ys first.1 second (λ a b here there. across a b (inr here) there),
)

rises-each : (each : ℕ → Move) → ((i j : ℕ) → i < j → IsBefore (each i) (each j)) → (a n : ℕ) → Rises (map each (range_with_len a n))
rises-each each up a zero = tt
rises-each each up a (suc n) = (
  (λ k among.
      let s = In-map_source each k (range_with_len (a + 1) n) among in
      let range = In-range_bounds s.0 (a + 1) n s.1 in
      subst (IsBefore (each a)) (sym s.2) (up a s.0 (omega (arith, range.0)))),
  rises-each each up (a + 1) n,
)

rises-lists : (lists : ℕ → List Move) → ((k : ℕ) → Rises (lists k)) → ((i j : ℕ) (x y : Move) → i < j → In x (lists i) → In y (lists j) → IsBefore x y) → (a n : ℕ) → Rises (flat_map lists (range_with_len a n))
rises-lists lists inner across a zero = tt
rises-lists lists inner across a (suc n) =
    rises-append (lists a) (flat_map lists (range_with_len (a + 1) n)) (inner a) (rises-lists lists inner across (a + 1) n)
    (λ x y here there.
    let s = In-flat_map_source lists y (range_with_len (a + 1) n) there in
    let range = In-range_bounds s.0 (a + 1) n s.1 in
    across a s.0 x y (omega (arith, range.0)) here s.2)

-- the first that passes comes before each that passes
first_passes : (p : Move → Bool) (ms : List Move) (m k : Move) → Rises ms → find p ms ≡ Some m → In k ms → p k ≡ true → IsBefore k m → ⊥
first_passes p [] m k rises found among passes before = absurd among
first_passes p (x ∷ ms) m k rises found among passes before =
    elim (p x) as (λ b. p x ≡ b → cond b (Some x) (find p ms) ≡ Some m → ⊥) [
      | true ↦ λ _ e.
          let same : x ≡ m = cc e in
          elim among [
            | inl here ↦ let back : IsBefore k k = subst (IsBefore k) (sym same ∙ sym here) before in not_back k k back back
            | inr later ↦ not_back k x (subst (IsBefore k) (sym same) before) (rises.0 k later)
          ]
      | false ↦ λ fails e. elim among [
        | inl here ↦ false≢true (sym fails ∙ ap p (sym here) ∙ passes)
        | inr later ↦ first_passes p ms m k rises.1 e later passes before
      ]
    ] refl found

-- ---- the moves rise

module _ (c : Code) where
  splits_rise : (index removed m : ℕ) → Rises (map (move_with index removed) (splits m))
  splits_rise index removed m =
      subst Rises (sym (map-map (move_with index removed) (λ a. (a, m - a)) (range_with_len 1 (m / 2))))
      (rises-each (λ a. move_with index removed (a, m - a)) (λ i j less. inr (refl, inr (refl, less))) 1 (m / 2))

  before_splits : (index removed m : ℕ) (k : Move) → In k (map (move_with index removed) (splits m)) → IsBefore (move_with index removed (0, m)) k
  before_splits index removed m k among =
      let by_left = In-map_source (move_with index removed) k (splits m) among in
      let by_heap = In-map_source (λ a. (a, m - a)) by_left.0 (range_with_len 1 (m / 2)) by_left.1 in
      let range = In-range_bounds by_heap.0 1 (m / 2) by_heap.1 in
      let is : k ≡ move_with index removed (by_heap.0, m - by_heap.0) = by_left.2 ∙ ap (move_with index removed) by_heap.2 in
      subst (IsBefore (move_with index removed (0, m))) (sym is) (inr (refl, inr (refl, omega (arith, range.0))))

  leavings_rise : (index removed m : ℕ) (one two : Bool) → Rises (map (move_with index removed) ((if one then (0, m) ∷ [] else []) ++ (if two then splits m else [])))
  leavings_rise index removed m true true = (before_splits index removed m, splits_rise index removed m)
  leavings_rise index removed m true false = ((λ k among. absurd among), tt)
  leavings_rise index removed m false true = splits_rise index removed m
  leavings_rise index removed m false false = tt

  removing_rise : (index n removed : ℕ) → Rises (moves_removing c index n removed)
  removing_rise index n removed = elim (leb removed n) as (λ b. Rises (map (move_with index removed) (if b then leavings c removed (n - removed) else []))) [
    | true ↦
        let m = n - removed in
        subst (λ (xs : List Heaps). Rises (map (move_with index removed) (xs ++ (if allows c removed 2 then splits m else [])))) (sym (one_is c removed m))
        (leavings_rise index removed m (leb 1 removed && allows c removed (min m 1)) (allows c removed 2))
    | false ↦ tt
  ]

  removes : (index n removed : ℕ) (m : Move) → In m (moves_removing c index n removed) → (m.index ≡ index) × (m.removed ≡ removed)
  removes index n removed m among =
      let by_left = In-map_source (move_with index removed) m (if leb removed n then leavings c removed (n - removed) else []) among in
      (ap (λ (k : Move). k.index) by_left.2, ap (λ (k : Move). k.removed) by_left.2)

  heap_rises : (index n : ℕ) → Rises (moves_at c index n)
  heap_rises index n =
      rises-lists (moves_removing c index n) (removing_rise index n)
      (λ i j x y less here there.
      let one = removes index n i x here in
      let other = removes index n j y there in
      inr (one.0 ∙ sym other.0, inl (omega (arith, one.1, other.1)))) 0 (suc (len c))

  all_rise : (index : ℕ) (heaps : Position) → Rises (moves_from c index heaps)
  all_rise index [] = tt
  all_rise index (n ∷ heaps) =
      rises-append (moves_at c index n) (moves_from c (suc index) heaps) (heap_rises index n) (all_rise (suc index) heaps)
      (λ x y here there.
      let at = at_place c index n x here in
      let from = move_from c (suc index) heaps y there in
      inl (omega (arith, at, from.index_is)))

  -- ---- each move is listed

  listed_here : (index n : ℕ) (m : Move) (v : IsMove c n m.left.0 m.left.1) → m.index ≡ index → v.removed ≡ m.removed → In m (moves_at c index n)
  listed_here index n m v at same =
      let r = v.removed in
      let is : move_with index r m.left ≡ m = λ i. record { index = sym at i; removed = same i; left = m.left } in
      In-flat_map (moves_removing c index n) r m (range_with_len 0 (suc (len c))) (In-range r 0 (suc (len c)) (omega arith) (omega (arith, v.digit)))
      (subst (λ k. In k (moves_removing c index n r)) is
      (In-map (move_with index r) m.left (if leb r n then leavings c r (n - r) else [])
      (In-if (leb r n) m.left (leavings c r (n - r)) (le-leb r n v.held) (In-leavings c r (n - r) m.left.0 m.left.1 v.leaves))))

  listed_from : (index place : ℕ) (heaps : Position) (m : Move) (v : IsMove c (slice_index heaps place) m.left.0 m.left.1) → m.index ≡ index + place → place < length heaps → v.removed ≡ m.removed
      → In m (moves_from c index heaps)
  listed_from index place [] m v at within same = absurd (omega arith)
  listed_from index zero (n ∷ heaps) m v at within same =
      In-append_left m (moves_at c index n) (moves_from c (suc index) heaps) (listed_here index n m v (omega (arith, at)) same)
  listed_from index (suc place) (n ∷ heaps) m v at within same =
      In-append_right m (moves_at c index n) (moves_from c (suc index) heaps) (listed_from (suc index) place heaps m v (omega (arith, at)) (omega arith) same)

  listed : (heaps : Position) (m : Move) → IsMoveIn c heaps m → In m (moves_in c heaps)
  listed heaps m move = listed_from 0 m.index heaps m move.move (omega arith) move.within move.removed

pub moves_in_are_the_moves : MovesInAreTheMoves
moves_in_are_the_moves c heaps m = (
  (λ among. move_in c heaps m (In-from_Contains m (moves_in c heaps) among)),
  (λ move. Contains-from_In m (moves_in c heaps) (listed c heaps m move)),
)

pub none_wins_before : NoneWinsBefore
none_wins_before c heaps m k found winning =
    first_passes (λ x. not (wins c (position_after heaps x))) (moves_in c heaps) m k (all_rise c 0 heaps) found (listed c heaps k winning.move) (ap not winning.loses)

pub none_wins_at_zero : NoneWinsAtZero
none_wins_at_zero c heaps = (zero_at_none c heaps, none_at_zero c heaps)

pub moves_leave_the_positions_after : MovesLeaveThePositionsAfter
moves_leave_the_positions_after c heaps = afters c heaps
