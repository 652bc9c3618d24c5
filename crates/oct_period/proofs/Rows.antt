-- Claims, heaps and positions of small games.
use Rattle.std.specs.Prelude.{◌≡◌, List, [], ◌∷◌, true, false, Ok, Err, Some, None, refl}
use Rattle.oct_code.specs.Code.{Code}
use Rattle.oct_mex.specs.NimValues.{nim_value}
use Rattle.oct_ops.specs.Operation.{Block, claimed, repeating}
use Rattle.oct_verify.specs.declared.status.Status.TheVariants as of_block
use Rattle.oct_period.specs.FarBlocks.{block_status}
use Rattle.oct_period.specs.Found.{found_period}
use Rattle.oct_period.specs.Moving.{first_winning_move}
use Rattle.oct_period.specs.Outcomes.{outcome}
use Rattle.oct_period.specs.Periods.{period_status, heap_value, position_value}
use Rattle.oct_period.specs.Winning.{wins}
use Rattle.oct_period.specs.declared.winner.Outcome.TheVariants as who
use Rattle.oct_period.specs.declared.status.PeriodStatus.TheVariants.{Proved, Refuted, Pending}

abbrev kayles : Code
kayles = record { head = 0; digits = 7 ∷ 7 ∷ [] }

-- one bean may be removed from a heap: the nim-values are 0 and 1 by turns
abbrev by_turns : Code
by_turns = record { head = 0; digits = 3 ∷ [] }

abbrev seven : List Block
seven = claimed by_turns 0 (0 ∷ 1 ∷ 0 ∷ 1 ∷ 0 ∷ 1 ∷ 0 ∷ []) ∷ []

abbrev six : List Block
six = claimed by_turns 0 (0 ∷ 1 ∷ 0 ∷ 1 ∷ 0 ∷ 1 ∷ []) ∷ []

-- ---- claims

seven_values_prove : period_status seven (repeating by_turns 1 2) ≡ Proved
unfolding nim_value
seven_values_prove = refl

six_values_are_too_few : period_status six (repeating by_turns 1 2) ≡ Pending 7
unfolding nim_value
six_values_are_too_few = refl

one_break_refutes : period_status seven (repeating by_turns 2 1) ≡ Refuted 2
unfolding nim_value
one_break_refutes = refl

-- ---- heaps and positions

large_heap : heap_value by_turns seven (repeating by_turns 1 2 ∷ []) 1000000001 ≡ Some 1
unfolding nim_value
large_heap = refl

no_claim : heap_value by_turns seven [] 7 ≡ None
unfolding nim_value
no_claim = refl

pending_claim : heap_value by_turns six (repeating by_turns 1 2 ∷ []) 6 ≡ None
unfolding nim_value
pending_claim = refl

no_heaps : position_value by_turns [] [] [] ≡ Ok 0
no_heaps = refl

second_unknown : position_value by_turns six [] (5 ∷ 6 ∷ 7 ∷ []) ≡ Err (record { index = 1 })
unfolding nim_value
second_unknown = refl

-- ---- blocks past the known length

abbrev far_right : Block
far_right = claimed by_turns 20 (0 ∷ 1 ∷ [])

far_proved : block_status seven (repeating by_turns 1 2 ∷ []) far_right ≡ of_block.Proved
unfolding nim_value
far_proved = refl

far_refuted : block_status seven (repeating by_turns 1 2 ∷ []) (claimed by_turns 20 (0 ∷ 0 ∷ [])) ≡ of_block.Refuted 21 0 1
unfolding nim_value
far_refuted = refl

far_waits : block_status six (repeating by_turns 1 2 ∷ []) far_right ≡ of_block.Pending
unfolding nim_value
far_waits = refl

far_without_claim : block_status seven [] far_right ≡ of_block.Pending
unfolding nim_value
far_without_claim = refl

-- ---- who wins

none : wins kayles [] ≡ false
unfolding wins
none = refl

two_equal : wins kayles (2 ∷ 2 ∷ []) ≡ false
unfolding wins
two_equal = refl

three : wins kayles (3 ∷ []) ≡ true
unfolding wins
three = refl

one_two_three : wins kayles (1 ∷ 2 ∷ 3 ∷ []) ≡ false
unfolding wins
one_two_three = refl

abbrev five_of_kayles : List Block
five_of_kayles = claimed kayles 0 (0 ∷ 1 ∷ 2 ∷ 3 ∷ 1 ∷ []) ∷ []

next_loses : outcome kayles five_of_kayles [] (1 ∷ 2 ∷ 3 ∷ []) ≡ who.NextLoses
unfolding nim_value wins
next_loses = refl

next_wins : outcome kayles five_of_kayles [] (1 ∷ 2 ∷ []) ≡ who.NextWins
unfolding nim_value wins
next_wins = refl

fifth_is_unknown : outcome kayles five_of_kayles [] (5 ∷ []) ≡ who.Unknown 0
unfolding nim_value wins
fifth_is_unknown = refl

-- ---- the period that is found

found_by_seven : found_period by_turns seven ≡ Some (repeating by_turns 1 2)
unfolding nim_value
found_by_seven = refl

none_by_six : found_period by_turns six ≡ None
unfolding nim_value
none_by_six = refl

-- ---- winning moves

middle_of_three : first_winning_move kayles (3 ∷ []) ≡ Some (record { index = 0; removed = 1; left = (1, 1) })
unfolding wins
middle_of_three = refl

leaves_two_equal : first_winning_move kayles (2 ∷ 3 ∷ []) ≡ Some (record { index = 1; removed = 1; left = (0, 2) })
unfolding wins
leaves_two_equal = refl

no_move_wins : first_winning_move kayles (1 ∷ 2 ∷ 3 ∷ []) ≡ None
unfolding wins
no_move_wins = refl
