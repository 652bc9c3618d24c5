-- The moves in a position, and the first that wins.
use Rattle.std.specs.Prelude.{◌≡◌, ℕ, suc, ◌-◌, ◌/◌, ◌<◌, ◌≤◌, Bool, false, not, ◌==◌, nat_le, bit_xor, if◌then◌else◌, List, [], ◌∷◌, ◌++◌, map, take, drop, length, slice_index, Option, Some, None, IsNone, Result, Ok, Err}
use Rattle.std.specs.List.{find, flat_map, range_with_len}
use Rattle.oct_code.specs.Code.{Code, len}
use Rattle.oct_mex.specs.Moves.{Heaps, IsMove, leavings}
use Rattle.oct_mex.specs.NimValues.{nim_value, position_value as nim_sum}
use Rattle.oct_ops.specs.Operation.{Block, Period}
use Rattle.oct_verify.specs.Known.{known}
use Rattle.oct_period.specs.Claims.{Claim}
use Rattle.oct_period.specs.Periods.{position_value}
use Rattle.oct_period.specs.Winning.{Position, wins}
use Rattle.oct_period.specs.declared.moving.Move.{Move}
use Rattle.oct_period.specs.declared.unknown.Unknown.{Unknown}

-- a move in the heap at a place, which removes so many beans and leaves these two heaps
abbrev pub move_with : ℕ → ℕ → Heaps → Move
move_with index removed left = record { index = index; removed = removed; left = left }

-- the moves in a heap of n at a place that remove so many beans, by the smaller heap that they leave
abbrev pub moves_removing : Code → ℕ → ℕ → ℕ → List Move
moves_removing c index n removed = map (move_with index removed) (if nat_le removed n then leavings c removed (n - removed) else [])

-- all moves in this heap, by the number of beans removed
abbrev pub moves_at : Code → ℕ → ℕ → List Move
moves_at c index n = flat_map (moves_removing c index n) (range_with_len 0 (suc (len c)))

-- the moves in heaps that stand from a place on
abbrev pub moves_from : Code → ℕ → Position → List Move
moves_from c index [] = []
moves_from c index (n ∷ heaps) = moves_at c index n ++ moves_from c (suc index) heaps

-- the moves in a position: by the place of the heap, then by the number of beans removed, then by the smaller heap left
abbrev pub moves_in : Code → Position → List Move
moves_in c heaps = moves_from c 0 heaps

-- the position that a move leaves: two heaps, of which one or both may be empty, stand in place of the one
abbrev pub position_after : Position → Move → Position
position_after heaps m = take m.index heaps ++ m.left.0 ∷ m.left.1 ∷ drop (suc m.index) heaps

-- the first move after which the next player loses
abbrev pub first_winning_move : Code → Position → Option Move
first_winning_move c heaps = find (λ m. not (wins c (position_after heaps m))) (moves_in c heaps)

abbrev pub winning_move_by : Code → Position → Result ℕ Unknown → Result (Option Move) Unknown
winning_move_by c heaps (Ok value) = Ok (first_winning_move c heaps)
winning_move_by c heaps (Err unknown) = Err unknown

-- where the nim-values of all heaps are known; else the first heap whose nim-value is not
abbrev pub winning_move : Code → List Block → List Period → Position → Result (Option Move) Unknown
winning_move c blocks claims heaps = winning_move_by c heaps (position_value c blocks claims heaps)

-- ---- what the answer says

-- a move of the game in one of the heaps
pub record IsMoveIn (c : Code) (heaps : Position) (m : Move) : Type 0 where
  pub within : m.index < length heaps
  pub move : IsMove c (slice_index heaps m.index) m.left.0 m.left.1
  pub removed : move.removed ≡ m.removed

-- it leaves a position whose nim-value is 0, so that the next player loses
pub record IsWinningMove (c : Code) (heaps : Position) (m : Move) : Type 0 where
  pub move : IsMoveIn c heaps m
  pub value : nim_sum c (position_after heaps m) ≡ 0
  pub loses : wins c (position_after heaps m) ≡ false

-- a winning move, and none exactly where the nim-value of the position is 0
abbrev pub IsWinningAnswer : Code → Position → Option Move → Type 0
IsWinningAnswer c heaps None = nim_sum c heaps ≡ 0
IsWinningAnswer c heaps (Some m) = IsWinningMove c heaps m

-- ---- the search

-- the blocks or a proved claim give the nim-value of a heap
abbrev pub IsReached : List Block → Option Claim → ℕ → Type 0
IsReached blocks claim n = IsNone claim → n < known blocks

-- two heaps have this exclusive or of their nim-values
abbrev pub has_value : Code → ℕ → Heaps → Bool
has_value c value left = bit_xor (nim_value c left.0) (nim_value c left.1) == value

-- so many beans in two heaps, of which one is given
abbrev pub split_value : Code → ℕ → ℕ → ℕ
split_value c rest a = bit_xor (nim_value c a) (nim_value c (rest - a))

-- a split into nonempty heaps with the value of this one, whose smaller heap is below `end`
pub record IsNearSplit (c : Code) (rest end a near : ℕ) : Type 0 where
  pub some : 1 ≤ near
  pub below : near < end
  pub same : split_value c rest near ≡ split_value c rest a

-- each split has the value of one whose smaller heap is below `end`
abbrev pub AreNear : Code → ℕ → ℕ → Type 0
AreNear c rest end = (a : ℕ) → 1 ≤ a → a ≤ rest / 2 → (near : ℕ) × IsNearSplit c rest end a near
