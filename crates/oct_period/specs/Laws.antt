-- What holds of all claims of a game, whatever its blocks.
use Rattle.std.specs.Prelude.{◌≡◌, ◌≢◌, ℕ, ◌≤◌, ◌==◌, not, List, Some, Ok}
use Rattle.std.specs.List.{All, list_any}
use Rattle.oct_code.specs.Code.{Code}
use Rattle.oct_mex.specs.NimValues.{nim_value, position_value as nim_sum}
use Rattle.oct_mex.specs.Periods.{IsPeriodicFrom, IsFirstBreak}
use Rattle.oct_ops.specs.Operation.{Block, Period}
use Rattle.oct_verify.specs.Laws.{AreAmong}
use Rattle.oct_period.specs.Outcomes.{outcome, outcome_by_value}
use Rattle.oct_period.specs.Winning.{positions_after, wins}
use Rattle.oct_period.specs.Periods.{period_status, heap_value, position_value}
use Rattle.oct_period.specs.declared.status.PeriodStatus.TheVariants.{Proved, Refuted, Pending}

-- a claim begins at 1 or later
abbrev pub IsLater : Period → Type 0
IsLater p = 1 ≤ p.start

-- a proved claim holds for every heap
abbrev pub ProvedHolds : Type 0
ProvedHolds = (blocks : List Block) (p : Period) → IsLater p → period_status blocks p ≡ Proved → IsPeriodicFrom p.code p.start p.period

-- a claim is refuted at the least of all heaps that break it
abbrev pub RefutedIsFirstBreak : Type 0
RefutedIsFirstBreak = (blocks : List Block) (p : Period) (at : ℕ) → period_status blocks p ≡ Refuted at → IsFirstBreak p.code p.start p.period at

-- what is proved or refuted stays so, at the same heap, however many blocks there are more
abbrev pub SettledClaimsStay : Type 0
SettledClaimsStay = (some all : List Block) (p : Period) → AreAmong some all → IsLater p → ((needs : ℕ) → period_status some p ≢ Pending needs)
    → period_status all p ≡ period_status some p

-- claims of this game
pub record IsClaimOf (c : Code) (p : Period) : Type 0 where
  pub code : p.code ≡ c
  pub later : IsLater p

-- the value of a heap is its nim-value, whichever proved claim gave it
abbrev pub HeapValuesAreRight : Type 0
HeapValuesAreRight = (c : Code) (blocks : List Block) (claims : List Period) (n value : ℕ) → All (IsClaimOf c) claims → heap_value c blocks claims n ≡ Some value
    → value ≡ nim_value c n

-- the value of a position is the exclusive or of the nim-values of its heaps
abbrev pub PositionValuesAreRight : Type 0
PositionValuesAreRight = (c : Code) (blocks : List Block) (claims : List Period) (heaps : List ℕ) (value : ℕ) → All (IsClaimOf c) claims → position_value c blocks claims heaps ≡ Ok value
    → value ≡ nim_sum c heaps

-- who wins follows from the moves: the player to move wins if some move leads to a position in which the player to move
-- does not win
abbrev pub NextPlayerWins : Type 0
NextPlayerWins = (c : Code) (heaps : List ℕ) → wins c heaps ≡ list_any (λ after. not (wins c after)) (positions_after c heaps)

-- and it is told by the nim-value of the position (Sprague 1935, Grundy 1939)
abbrev pub WinsAboveZero : Type 0
WinsAboveZero = (c : Code) (heaps : List ℕ) → wins c heaps ≡ not (nim_sum c heaps == 0)

-- so the outcome is that of the position's value
abbrev pub OutcomeByValue : Type 0
OutcomeByValue = (c : Code) (blocks : List Block) (claims : List Period) (heaps : List ℕ) → All (IsClaimOf c) claims → outcome c blocks claims heaps ≡ outcome_by_value (position_value c blocks claims heaps)
