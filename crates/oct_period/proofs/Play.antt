-- The player to move wins exactly where the exclusive or of the nim-values is above 0 (Sprague 1935, Grundy 1939).
use Rattle.std.proofs.Common.{◌≡◌, ℕ, zero, suc, ◌+◌, ◌-◌, ◌*◌, ◌<◌, ◌≤◌, Bool, true, false, not, ◌||◌, eqb, List, [], ◌∷◌, map, bit_xor, Result, Ok, Err, refl, sym, ap, ◌∙◌, arith, inl, inr}
use Rattle.std.proofs.lemmas.Bool.{cases_eq, eq-eqb, ne_eqb, or_left, or_right}
use Rattle.std.proofs.lemmas.List.Sums.{sum_by-cons}
use Rattle.std.specs.Int.Bits.{xor_assoc}
use Rattle.std.specs.List.{list_any}
use Rattle.oct_code.specs.Code.{Code}
use Rattle.oct_mex.specs.Moves.{Heaps, moves}
use Rattle.oct_mex.specs.NimValues.{nim_value, position_value as nim_sum}
use Rattle.oct_code.proofs.Members.{In, In-append_left, In-append_right, In-append_cases, In-map, In-map_source}
use Rattle.oct_mex.proofs.Moves.{parts, In-moves, moves_source}
use Rattle.oct_mex.proofs.NimValues.{nim_sequence}
use Rattle.oct_period.specs.Laws.{NextPlayerWins, WinsAboveZero, OutcomeByValue}
use Rattle.oct_period.specs.Outcomes.{winner, outcome_by, outcome_by_value}
use Rattle.oct_period.specs.Periods.{position_value}
use Rattle.oct_period.specs.Winning.{Position, positions_after, weight, wins_within, wins}
use Rattle.oct_period.specs.declared.unknown.Unknown.{Unknown}
use Rattle.oct_period.proofs.HeapValues.{position_values_are_right}
use Rattle.oct_period.proofs.Xor.{below_xor, xor_cancel_left, xor_cancel_right, xor_cancel_outer}

weight-cons : (n : ℕ) (heaps : Position) → weight (n ∷ heaps) ≡ 2 * n - 1 + weight heaps
weight-cons n heaps = sum_by-cons (λ n. 2 * n - 1) n heaps

-- numbers that are the same with a third are the same
xor_injective : (a b c : ℕ) → bit_xor a c ≡ bit_xor b c → a ≡ b
xor_injective a b c h = sym (xor_cancel_right a c) ∙ ap (λ z. bit_xor z c) h ∙ xor_cancel_right b c

xor_injective_left : (a b c : ℕ) → bit_xor c a ≡ bit_xor c b → a ≡ b
xor_injective_left a b c h = sym (xor_cancel_left c a) ∙ ap (bit_xor c) h ∙ xor_cancel_left c b

module _ (c : Code) where
  -- what one move leads to: the first heap is replaced, or another
  data After (n : ℕ) (heaps to : Position) : Type 0 where
    Here : (m : Heaps) → In m (moves c n) → to ≡ m.0 ∷ m.1 ∷ heaps → After n heaps to
    There : (later : Position) → In later (positions_after c heaps) → to ≡ n ∷ later → After n heaps to

  after_cases : (n : ℕ) (heaps to : Position) → In to (positions_after c (n ∷ heaps)) → After n heaps to
  after_cases n heaps to h =
      elim (In-append_cases to (map (λ (m : Heaps). m.0 ∷ m.1 ∷ heaps) (moves c n)) (map (λ after. n ∷ after) (positions_after c heaps)) h) [
        | inl here ↦ let s = In-map_source (λ (m : Heaps). m.0 ∷ m.1 ∷ heaps) to (moves c n) here in Here s.0 s.1 s.2
        | inr there ↦ let s = In-map_source (λ after. n ∷ after) to (positions_after c heaps) there in There s.0 s.1 s.2
      ]

  -- each move lowers the weight
  lighter : (from to : Position) → In to (positions_after c from) → weight to < weight from
  lighter [] to h = absurd h
  lighter (n ∷ heaps) to h = elim (after_cases n heaps to h) [
    | Here m among is ↦
        let p = parts c n m.0 m.1 (moves_source c n m.0 m.1 among) in
        let ordered = p.ordered in
        let total = p.total in
        let smaller = p.smaller in
        let was = weight-cons n heaps in
        let now : weight to ≡ 2 * m.0 - 1 + (2 * m.1 - 1 + weight heaps) = ap weight is ∙ weight-cons m.0 (m.1 ∷ heaps) ∙ ap (λ w. 2 * m.0 - 1 + w) (weight-cons m.1 heaps) in
        omega (arith, was, now, ordered, total, smaller)
    | There later among is ↦
        let rest = lighter heaps later among in
        let was = weight-cons n heaps in
        let now : weight to ≡ 2 * n - 1 + weight later = ap weight is ∙ weight-cons n later in
        omega (arith, was, now, rest)
  ]

  -- each move changes the nim-value
  changes : (from to : Position) → In to (positions_after c from) → nim_sum c to ≡ nim_sum c from → ⊥
  changes [] to h e = absurd h
  changes (n ∷ heaps) to h e = elim (after_cases n heaps to h) [
    | Here m among is ↦
        let option : bit_xor (nim_value c m.0) (nim_value c m.1) ≡ nim_value c n = xor_injective (bit_xor (nim_value c m.0) (nim_value c m.1)) (nim_value c n) (nim_sum c heaps)
        (xor_assoc (nim_value c m.0) (nim_value c m.1) (nim_sum c heaps) ∙ sym (ap (nim_sum c) is) ∙ e) in
        (nim_sequence c n).excluded (record { a = m.0; b = m.1; move = moves_source c n m.0 m.1 among; is = sym option })
    | There later among is ↦ changes heaps later among (xor_injective_left (nim_sum c later) (nim_sum c heaps) (nim_value c n) (sym (ap (nim_sum c) is) ∙ e))
  ]

  -- some move leads to each smaller nim-value
  record Reached (from : Position) (value : ℕ) : Type 0 where
    to : Position
    among : In to (positions_after c from)
    is : nim_sum c to ≡ value

  reaches : (from : Position) (value : ℕ) → value < nim_sum c from → Reached from value
  reaches [] value h = absurd (omega (arith, h))
  reaches (n ∷ heaps) value h = elim (below_xor (nim_value c n) (nim_sum c heaps) value h) [
    | inl here ↦
        let o = (nim_sequence c n).below (bit_xor value (nim_sum c heaps)) here in
        record {
          to = o.a ∷ o.b ∷ heaps;
          among = In-append_left (o.a ∷ o.b ∷ heaps) (map (λ (m : Heaps). m.0 ∷ m.1 ∷ heaps) (moves c n)) (map (λ after. n ∷ after) (positions_after c heaps))
              (In-map (λ (m : Heaps). m.0 ∷ m.1 ∷ heaps) (o.a, o.b) (moves c n) (In-moves c n o.a o.b o.move));
          is = sym (xor_assoc (nim_value c o.a) (nim_value c o.b) (nim_sum c heaps)) ∙ ap (λ v. bit_xor v (nim_sum c heaps)) (sym o.is) ∙ xor_cancel_right value (nim_sum c heaps);
        }
    | inr there ↦
        let r = reaches heaps (bit_xor value (nim_value c n)) there in
        record {
          to = n ∷ r.to;
          among = In-append_right (n ∷ r.to) (map (λ (m : Heaps). m.0 ∷ m.1 ∷ heaps) (moves c n)) (map (λ after. n ∷ after) (positions_after c heaps)) (In-map (λ after. n ∷ after) r.to (positions_after c heaps) r.among);
          is = ap (bit_xor (nim_value c n)) r.is ∙ sym (xor_assoc (nim_value c n) value (nim_value c n)) ∙ xor_cancel_outer (nim_value c n) value;
        }
  ]

  -- ---- a test of positions that tells where the nim-value is 0

  any_some : (p : Position → Bool) (ps : List Position) (x : Position) → In x ps → p x ≡ true → list_any p ps ≡ true
  any_some p [] x h e = absurd h
  any_some p (y ∷ ps) x h e = elim h [
    | inl here ↦ or_left (p y) (list_any p ps) (ap p (sym here) ∙ e)
    | inr later ↦ or_right (p y) (list_any p ps) (any_some p ps x later e)
  ]

  any_none : (p : Position → Bool) (ps : List Position) → ((x : Position) → In x ps → p x ≡ false) → list_any p ps ≡ false
  any_none p [] all = refl
  any_none p (y ∷ ps) all = (λ i. all y (inl refl) i || list_any p ps) ∙ any_none p ps (λ x h. all x (inr h))

  above_zero : Position → Bool
  above_zero ps = not (eqb (nim_sum c ps) 0)

  by_a_move : (test : Position → Bool) (ps : Position) → ((to : Position) → In to (positions_after c ps) → test to ≡ above_zero to) → list_any (λ to. not (test to)) (positions_after c ps) ≡ above_zero ps
  unfolding above_zero
  by_a_move test ps same = elim (cases_eq (nim_sum c ps) 0) [
    | inl none ↦
        any_none (λ to. not (test to)) (positions_after c ps) (λ to among.
        ap not (same to among) ∙ ap (λ b. not (not b)) (ne_eqb (nim_sum c to) 0 (λ e. changes ps to among (e ∙ sym none))))
        ∙ sym (ap not (eq-eqb (nim_sum c ps) 0 none))
    | inr some ↦
        let r = reaches ps 0 (omega (arith, some)) in
        any_some (λ to. not (test to)) (positions_after c ps) r.to r.among (ap not (same r.to r.among) ∙ ap (λ b. not (not b)) (eq-eqb (nim_sum c r.to) 0 r.is))
        ∙ sym (ap not (ne_eqb (nim_sum c ps) 0 some))
  ]

  within : (fuel : ℕ) (ps : Position) → weight ps ≤ fuel → wins_within c fuel ps ≡ above_zero ps
  unfolding above_zero
  within zero ps h = elim (cases_eq (nim_sum c ps) 0) [
    | inl none ↦ sym (ap not (eq-eqb (nim_sum c ps) 0 none))
    | inr some ↦ let r = reaches ps 0 (omega (arith, some)) in let less = lighter ps r.to r.among in absurd (omega (arith, less, h))
  ]
  within (suc fuel) ps h = by_a_move (wins_within c fuel) ps (λ to among. within fuel to (let less = lighter ps to among in omega (arith, less, h)))

pub wins_above_zero : WinsAboveZero
unfolding wins above_zero
wins_above_zero c ps = within c (weight ps) ps (omega arith)

pub next_player_wins : NextPlayerWins
unfolding above_zero
next_player_wins c ps = wins_above_zero c ps ∙ sym (by_a_move c (wins c) ps (λ to among. wins_above_zero c to))

pub by_value : (c : Code) (heaps : List ℕ) (r : Result ℕ Unknown) → ((value : ℕ) → r ≡ Ok value → value ≡ nim_sum c heaps) → outcome_by c heaps r ≡ outcome_by_value r
by_value c heaps (Ok value) right = ap winner (wins_above_zero c heaps ∙ ap (λ v. not (eqb v 0)) (sym (right value refl)))
by_value c heaps (Err u) right = refl

pub outcome_is_by_value : OutcomeByValue
outcome_is_by_value c blocks claims heaps each = by_value c heaps (position_value c blocks claims heaps) (λ value is. position_values_are_right c blocks claims heaps value each is)
