-- The moves in a position, and the positions that they leave.
use Rattle.std.proofs.Common.{◌≡◌, ℕ, zero, suc, ◌+◌, ◌-◌, ◌<◌, drop-cons, Bool, true, false, not, ◌||◌, cond, eqb, leb, if◌then◌else◌, List, [], ◌∷◌, ◌++◌, map, take, drop, length, slice_index, Option, Some, None, bit_xor, inl, inr, refl, sym, ap, ap₂, ◌∙◌, subst, arith}
use Rattle.std.proofs.lemmas.Bool.{cases_eq, eq-eqb, ne_eqb, leb-true}
use Rattle.std.proofs.lemmas.List.{map-append}
use Rattle.std.proofs.lemmas.Nat.{xor_comm}
use Rattle.std.specs.Int.Bits.{xor_assoc, xor_self}
use Rattle.std.specs.List.{find, flat_map, list_any, range_with_len}
use Rattle.std.specs.Option.{is_some}
use Rattle.oct_code.specs.Code.{Code, len}
use Rattle.oct_mex.specs.Moves.{Heaps, IsMove, leavings, moves}
use Rattle.oct_mex.specs.NimValues.{nim_value, position_value as nim_sum}
use Rattle.oct_code.proofs.Members.{In, In-append_cases, In-flat_map_source, In-map_source, In-range_bounds}
use Rattle.oct_mex.proofs.Moves.{In-if_source, leavings_source}
use Rattle.oct_period.specs.Moving.{move_with, moves_removing, moves_at, moves_from, moves_in, position_after, first_winning_move, has_value, IsMoveIn, IsWinningAnswer, IsWinningMove}
use Rattle.oct_period.specs.Winning.{Position, positions_after, wins}
use Rattle.oct_period.specs.declared.moving.Move.{Move}
use Rattle.oct_period.proofs.Finding.{find-append_none, find-append_some}
use Rattle.oct_period.proofs.Play.{next_player_wins, wins_above_zero}
use Rattle.oct_period.proofs.Xor.{same_from_xor, xor_cancel_outer}

-- ---- what a search says of a list

module _ {X : Type 0} (p : X → Bool) where
  pub find_among : (xs : List X) (x : X) → find p xs ≡ Some x → In x xs × (p x ≡ true)
  find_among [] x h = cc
  find_among (y ∷ xs) x h = elim (p y) as (λ b. p y ≡ b → cond b (Some y) (find p xs) ≡ Some x → In x (y ∷ xs) × (p x ≡ true)) [
    | true ↦ λ e k. let same : y ≡ x = cc k in (inl (sym same), ap p (sym same) ∙ e)
    | false ↦ λ e k. let later = find_among xs x k in (inr later.0, later.1)
  ] refl h

  pub found_any : (xs : List X) → is_some (find p xs) ≡ list_any p xs
  found_any [] = refl
  found_any (x ∷ xs) = elim (p x) as (λ b. is_some (cond b (Some x) (find p xs)) ≡ (b || list_any p xs)) [
    | true ↦ refl
    | false ↦ found_any xs
  ]

  -- by a test that says the same of each element
  pub find_same : (q : X → Bool) (xs : List X) → ((x : X) → In x xs → p x ≡ q x) → find p xs ≡ find q xs
  find_same q [] same = refl
  find_same q (x ∷ xs) same = (λ i. cond (same x (inl refl) i) (Some x) (find p xs)) ∙ ap (cond (q x) (Some x)) (find_same q xs (λ y h. same y (inr h)))

any-map : {X Y : Type 0} (f : X → Y) (p : Y → Bool) (xs : List X) → list_any p (map f xs) ≡ list_any (λ x. p (f x)) xs
any-map f p [] = refl
any-map f p (x ∷ xs) = ap (λ b. p (f x) || b) (any-map f p xs)

module _ (c : Code) where
  -- ---- the value of the position after a move

  replaced : (heaps : Position) (i a b : ℕ) → i < length heaps → nim_sum c (take i heaps ++ a ∷ b ∷ drop (suc i) heaps)
      ≡ bit_xor (bit_xor (nim_sum c heaps) (nim_value c (slice_index heaps i))) (bit_xor (nim_value c a) (nim_value c b))
  replaced [] i a b within = absurd (omega arith)
  replaced (n ∷ heaps) zero a b within =
      let left = bit_xor (nim_value c a) (nim_value c b) in
      sym (xor_assoc (nim_value c a) (nim_value c b) (nim_sum c heaps)) ∙ xor_comm left (nim_sum c heaps)
      ∙ ap (λ v. bit_xor v left) (sym (xor_cancel_outer (nim_value c n) (nim_sum c heaps)))
  replaced (n ∷ heaps) (suc i) a b within =
      let left = bit_xor (nim_value c a) (nim_value c b) in
      let at = nim_value c (slice_index heaps i) in
      ap (bit_xor (nim_value c n)) (replaced heaps i a b (omega arith)) ∙ sym (xor_assoc (nim_value c n) (bit_xor (nim_sum c heaps) at) left)
      ∙ ap (λ v. bit_xor v left) (sym (xor_assoc (nim_value c n) (nim_sum c heaps) at))

  not_not : (b : Bool) → not (not b) ≡ b
  not_not true = refl
  not_not false = refl

  xor_zero : (v w : ℕ) → eqb (bit_xor v w) 0 ≡ eqb w v
  xor_zero v w = elim (cases_eq w v) [
    | inl same ↦ eq-eqb (bit_xor v w) 0 (ap (bit_xor v) same ∙ xor_self v) ∙ sym (eq-eqb w v same)
    | inr other ↦ ne_eqb (bit_xor v w) 0 (λ none. other (sym (same_from_xor v w none))) ∙ sym (ne_eqb w v other)
  ]

  -- the next player loses where the two heaps that are left have the value of all other heaps
  loses_by_value : (heaps : Position) (m : Move) (wanted : ℕ) → m.index < length heaps → wanted ≡ bit_xor (nim_sum c heaps) (nim_value c (slice_index heaps m.index))
      → not (wins c (position_after heaps m)) ≡ has_value c wanted m.left
  loses_by_value heaps m wanted within is =
      let left = bit_xor (nim_value c m.left.0) (nim_value c m.left.1) in
      ap not (wins_above_zero c (position_after heaps m)) ∙ not_not (eqb (nim_sum c (position_after heaps m)) 0)
      ∙ ap (λ v. eqb v 0) (replaced heaps m.index m.left.0 m.left.1 within ∙ ap (λ v. bit_xor v left) (sym is)) ∙ xor_zero wanted left

  -- ---- the moves in one heap

  pub at_place : (index n : ℕ) (m : Move) → In m (moves_at c index n) → m.index ≡ index
  at_place index n m among =
      let by_removed = In-flat_map_source (moves_removing c index n) m (range_with_len 0 (suc (len c))) among in
      let by_left = In-map_source (move_with index by_removed.0) m (if leb by_removed.0 n then leavings c by_removed.0 (n - by_removed.0) else []) by_removed.2 in
      ap (λ (k : Move). k.index) by_left.2

  pub same_search : (heaps : Position) (index n wanted : ℕ) → index < length heaps → slice_index heaps index ≡ n → wanted ≡ bit_xor (nim_sum c heaps) (nim_value c n)
      → find (λ m. not (wins c (position_after heaps m))) (moves_at c index n) ≡ find (λ (m : Move). has_value c wanted m.left) (moves_at c index n)
  same_search heaps index n wanted within at is =
      find_same (λ m. not (wins c (position_after heaps m))) (λ (m : Move). has_value c wanted m.left) (moves_at c index n)
      (λ m among.
      let here = at_place index n m among in
      loses_by_value heaps m wanted (omega (arith, here, within)) (is ∙ ap (λ v. bit_xor (nim_sum c heaps) (nim_value c v)) (sym at ∙ ap (slice_index heaps) (sym here))))

  pub record IsMoveOf (n : ℕ) (m : Move) : Type 0 where
    pub move : IsMove c n m.left.0 m.left.1
    pub removed : move.removed ≡ m.removed

  move_here : (index n : ℕ) (m : Move) → In m (moves_at c index n) → IsMoveOf n m
  move_here index n m among =
      let by_removed = In-flat_map_source (moves_removing c index n) m (range_with_len 0 (suc (len c))) among in
      let r = by_removed.0 in
      let range = In-range_bounds r 0 (suc (len c)) by_removed.1 in
      let by_left = In-map_source (move_with index r) m (if leb r n then leavings c r (n - r) else []) by_removed.2 in
      let left = by_left.0 in
      let held = In-if_source (leb r n) left (leavings c r (n - r)) by_left.1 in
      subst (IsMoveOf n) (sym by_left.2) (record {
        move = record { removed = r; digit = omega (arith, range.1); held = leb-true r n held.0; leaves = leavings_source c r (n - r) left.0 left.1 held.1 };
        removed = refl;
      })

  -- ---- the moves in all heaps

  pub record IsMoveFrom (index : ℕ) (heaps : Position) (m : Move) : Type 0 where
    pub place : ℕ
    pub index_is : m.index ≡ index + place
    pub within : place < length heaps
    pub move : IsMoveOf (slice_index heaps place) m

  pub move_from : (index : ℕ) (heaps : Position) (m : Move) → In m (moves_from c index heaps) → IsMoveFrom index heaps m
  move_from index [] m among = absurd among
  move_from index (n ∷ heaps) m among = elim (In-append_cases m (moves_at c index n) (moves_from c (suc index) heaps) among) [
    | inl here ↦ record { place = 0; index_is = let at = at_place index n m here in omega (arith, at); within = omega arith; move = move_here index n m here }
    | inr later ↦
        let rest = move_from (suc index) heaps m later in
        record { place = suc rest.place; index_is = omega (arith, rest.index_is); within = omega (arith, rest.within); move = rest.move }
  ]

  pub move_in : (heaps : Position) (m : Move) → In m (moves_in c heaps) → IsMoveIn c heaps m
  move_in heaps m among =
      let from = move_from 0 heaps m among in
      let place : from.place ≡ m.index = omega (arith, from.index_is) in
      let move = subst (λ i. IsMoveOf (slice_index heaps i) m) place from.move in
      record { within = omega (arith, place, from.within); move = move.move; removed = move.removed }

  -- ---- the positions after the moves

  pair_stands : (heaps : Position) (n removed : ℕ) (lefts : List Heaps) → map (position_after (n ∷ heaps)) (map (move_with 0 removed) lefts) ≡ map (λ (m : Heaps). m.0 ∷ m.1 ∷ heaps) lefts
  pair_stands heaps n removed [] = refl
  pair_stands heaps n removed (left ∷ lefts) = ap (λ rest. (left.0 ∷ left.1 ∷ heaps) ∷ rest) (pair_stands heaps n removed lefts)

  after_first : (heaps : Position) (n : ℕ) (rs : List ℕ) → map (position_after (n ∷ heaps)) (flat_map (moves_removing c 0 n) rs)
      ≡ map (λ (m : Heaps). m.0 ∷ m.1 ∷ heaps) (flat_map (λ r. if leb r n then leavings c r (n - r) else []) rs)
  after_first heaps n [] = refl
  after_first heaps n (r ∷ rs) =
      let lefts : List Heaps = if leb r n then leavings c r (n - r) else [] in
      map-append (position_after (n ∷ heaps)) (moves_removing c 0 n r) (flat_map (moves_removing c 0 n) rs)
      ∙ ap₂ (λ xs ys. xs ++ ys) (pair_stands heaps n r lefts) (after_first heaps n rs)
      ∙ sym (map-append (λ (m : Heaps). m.0 ∷ m.1 ∷ heaps) lefts (flat_map (λ r. if leb r n then leavings c r (n - r) else []) rs))

  -- the same move, one place later
  abbrev later : Move → Move
  later m = record m { index = suc m.index }

  pairs_later : (index removed : ℕ) (lefts : List Heaps) → map (move_with (suc index) removed) lefts ≡ map later (map (move_with index removed) lefts)
  pairs_later index removed [] = refl
  pairs_later index removed (left ∷ lefts) = ap (λ rest. move_with (suc index) removed left ∷ rest) (pairs_later index removed lefts)

  heap_later : (index n : ℕ) (rs : List ℕ) → flat_map (moves_removing c (suc index) n) rs ≡ map later (flat_map (moves_removing c index n) rs)
  heap_later index n [] = refl
  heap_later index n (r ∷ rs) =
      ap₂ (λ xs ys. xs ++ ys) (pairs_later index r (if leb r n then leavings c r (n - r) else [])) (heap_later index n rs)
      ∙ sym (map-append later (moves_removing c index n r) (flat_map (moves_removing c index n) rs))

  all_later : (index : ℕ) (heaps : Position) → moves_from c (suc index) heaps ≡ map later (moves_from c index heaps)
  all_later index [] = refl
  all_later index (n ∷ heaps) =
      ap₂ (λ xs ys. xs ++ ys) (heap_later index n (range_with_len 0 (suc (len c)))) (all_later (suc index) heaps)
      ∙ sym (map-append later (moves_at c index n) (moves_from c (suc index) heaps))

  after_rest : (heaps : Position) (n : ℕ) (ms : List Move) → map (position_after (n ∷ heaps)) (map later ms) ≡ map (λ after. n ∷ after) (map (position_after heaps) ms)
  after_rest heaps n [] = refl
  after_rest heaps n (m ∷ ms) = ap (λ rest. (n ∷ position_after heaps m) ∷ rest) (after_rest heaps n ms)

  -- the moves lead to the positions after the position, in their order
  pub afters : (heaps : Position) → map (position_after heaps) (moves_in c heaps) ≡ positions_after c heaps
  afters [] = refl
  afters (n ∷ heaps) =
      map-append (position_after (n ∷ heaps)) (moves_at c 0 n) (moves_from c 1 heaps)
      ∙ ap₂ (λ xs ys. xs ++ ys) (after_first heaps n (range_with_len 0 (suc (len c))))
      (ap (map (position_after (n ∷ heaps))) (all_later 0 heaps) ∙ after_rest heaps n (moves_in c heaps) ∙ ap (map (λ after. n ∷ after)) (afters heaps))

  -- ---- the first winning move

  found_wins : (heaps : Position) → is_some (first_winning_move c heaps) ≡ wins c heaps
  found_wins heaps =
      found_any (λ m. not (wins c (position_after heaps m))) (moves_in c heaps)
      ∙ sym (any-map (position_after heaps) (λ after. not (wins c after)) (moves_in c heaps))
      ∙ ap (list_any (λ after. not (wins c after))) (afters heaps) ∙ sym (next_player_wins c heaps)

  pub none_at_zero : (heaps : Position) → nim_sum c heaps ≡ 0 → first_winning_move c heaps ≡ None
  none_at_zero heaps none = no_value (first_winning_move c heaps) (found_wins heaps ∙ wins_above_zero c heaps ∙ ap not (eq-eqb (nim_sum c heaps) 0 none))
    where
      no_value : (o : Option Move) → is_some o ≡ false → o ≡ None
      no_value None h = refl
      no_value (Some m) h = cc

  pub zero_at_none : (heaps : Position) → first_winning_move c heaps ≡ None → nim_sum c heaps ≡ 0
  zero_at_none heaps none = elim (cases_eq (nim_sum c heaps) 0) [
    | inl is ↦ is
    | inr other ↦
        let clash : false ≡ true = sym (ap is_some none) ∙ found_wins heaps ∙ wins_above_zero c heaps ∙ ap not (ne_eqb (nim_sum c heaps) 0 other) in
        cc clash
  ]

  pub some_wins : (heaps : Position) (m : Move) → first_winning_move c heaps ≡ Some m → IsWinningMove c heaps m
  some_wins heaps m found =
      let among = find_among (λ k. not (wins c (position_after heaps k))) (moves_in c heaps) m found in
      let loses : wins c (position_after heaps m) ≡ false = sym (not_not (wins c (position_after heaps m))) ∙ ap not among.1 in
      record {
        move = move_in heaps m among.0;
        value = zero_if (sym (wins_above_zero c (position_after heaps m)) ∙ loses);
        loses = loses;
      }
    where
      zero_if : not (eqb (nim_sum c (position_after heaps m)) 0) ≡ false → nim_sum c (position_after heaps m) ≡ 0
      zero_if h = elim (cases_eq (nim_sum c (position_after heaps m)) 0) [
        | inl is ↦ is
        | inr other ↦ let clash : true ≡ false = sym (ap not (ne_eqb (nim_sum c (position_after heaps m)) 0 other)) ∙ h in cc clash
      ]

  pub answers : (heaps : Position) (o : Option Move) → o ≡ first_winning_move c heaps → IsWinningAnswer c heaps o
  answers heaps None is = zero_at_none heaps (sym is)
  answers heaps (Some m) is = some_wins heaps m (sym is)

  -- ---- a search heap by heap

  pub record IsAllFrom (heaps : Position) (index : ℕ) (r all : Option Move) : Type 0 where
    pub found : is_some r ≡ true → r ≡ all
    pub goes_on : is_some r ≡ false → find (λ m. not (wins c (position_after heaps m))) (moves_from c (index + 1) (drop (index + 1) heaps)) ≡ all

  by_result : (heaps : Position) (index : ℕ) (r all : Option Move) (moves : List Move) → find (λ m. not (wins c (position_after heaps m))) moves ≡ r
      → find (λ m. not (wins c (position_after heaps m))) (moves ++ moves_from c (suc index) (drop (suc index) heaps)) ≡ all → IsAllFrom heaps index r all
  by_result heaps index None all moves here split =
      let next : index + 1 ≡ suc index = omega arith in
      record {
        found = λ some. cc some;
        goes_on = λ none.
            ap (λ k. find (λ m. not (wins c (position_after heaps m))) (moves_from c k (drop k heaps))) next
            ∙ sym (find-append_none (λ m. not (wins c (position_after heaps m))) moves (moves_from c (suc index) (drop (suc index) heaps)) here) ∙ split;
      }
  by_result heaps index (Some m) all moves here split = record {
    found = λ some. sym (find-append_some (λ m. not (wins c (position_after heaps m))) m moves (moves_from c (suc index) (drop (suc index) heaps)) here) ∙ split;
    goes_on = λ none. cc none;
  }

  pub search_goes_on : (heaps : Position) (index wanted : ℕ) (r all : Option Move) → index < length heaps → wanted ≡ bit_xor (nim_sum c heaps) (nim_value c (slice_index heaps index))
      → r ≡ find (λ (m : Move). has_value c wanted m.left) (moves_at c index (slice_index heaps index))
      → find (λ m. not (wins c (position_after heaps m))) (moves_from c index (drop index heaps)) ≡ all → IsAllFrom heaps index r all
  search_goes_on heaps index wanted r all within is r_is known =
      by_result heaps index r all (moves_at c index (slice_index heaps index))
      (same_search heaps index (slice_index heaps index) wanted within refl is ∙ sym r_is)
      (ap (λ hs. find (λ m. not (wins c (position_after heaps m))) (moves_from c index hs)) (sym (drop-cons heaps index 0 within)) ∙ known)
