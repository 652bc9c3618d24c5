-- What holds of the moves in a position, and of the first that wins.
use Rattle.std.specs.Prelude.{◌≡◌, ◌↔◌, ◌⊎◌, ◌<◌, map, Some, None}
use Rattle.std.specs.List.{Contains}
use Rattle.oct_code.specs.Code.{Code}
use Rattle.oct_mex.specs.NimValues.{position_value as nim_sum}
use Rattle.oct_period.specs.Moving.{moves_in, position_after, first_winning_move, IsMoveIn, IsWinningMove}
use Rattle.oct_period.specs.Winning.{Position, positions_after}
use Rattle.oct_period.specs.declared.moving.Move.{Move}

-- by the place of the heap, then by the number of beans removed, then by the smaller heap left
abbrev pub IsBefore : Move → Move → Type 0
IsBefore k m = (k.index < m.index) ⊎ ((k.index ≡ m.index) × ((k.removed < m.removed) ⊎ ((k.removed ≡ m.removed) × (k.left.0 < m.left.0))))

-- the list of the moves in a position has each move of the game in it, and no other
abbrev pub MovesInAreTheMoves : Type 0
MovesInAreTheMoves = (c : Code) (heaps : Position) (m : Move) → Contains (moves_in c heaps) m ↔ IsMoveIn c heaps m

-- they leave the positions after it
abbrev pub MovesLeaveThePositionsAfter : Type 0
MovesLeaveThePositionsAfter = (c : Code) (heaps : Position) → map (position_after heaps) (moves_in c heaps) ≡ positions_after c heaps

-- no winning move comes before the first
abbrev pub NoneWinsBefore : Type 0
NoneWinsBefore = (c : Code) (heaps : Position) (m k : Move) → first_winning_move c heaps ≡ Some m → IsWinningMove c heaps k → ¬ IsBefore k m

-- there is none exactly where the nim-value of the position is 0
abbrev pub NoneWinsAtZero : Type 0
NoneWinsAtZero = (c : Code) (heaps : Position) → (first_winning_move c heaps ≡ None) ↔ (nim_sum c heaps ≡ 0)
