-- The nim-value of a position, and a winning move, by a search.
use Rattle.std.specs.Prelude.{◌≡◌, ℕ, ◌≤◌, List, Option, None, Result}
use Rattle.oct_code.specs.Code.{Code}
use Rattle.oct_mex.specs.declared.period.SeenPeriod.{SeenPeriod}
use Rattle.oct_period.specs.Moving.{winning_move_by}
use Rattle.oct_period.specs.Periods.{position_value_from}
use Rattle.oct_period.specs.declared.moving.Move.{Move}
use Rattle.oct_period.specs.declared.unknown.Unknown.{Unknown}
use Rattle.oct_reach.specs.Reaching.{value_told}
use Rattle.oct_search.specs.Found.{IsFound}

-- at most `count` nim-values prove the least period, or so many prove none; the answer is by those and by the period
pub record IsReached (c : Code) (count : ℕ) (heaps : List ℕ) (told : Result ℕ Unknown) : Type 0 where
  pub found : Option SeenPeriod
  pub values : ℕ
  pub few : values ≤ count
  pub all : found ≡ None → values ≡ count
  pub period : IsFound c values found
  pub is : told ≡ position_value_from (value_told c found values) 0 heaps

-- the first winning move where the position has a nim-value so; else the heap that has none
pub record IsMoveReached (c : Code) (count : ℕ) (heaps : List ℕ) (told : Result (Option Move) Unknown) : Type 0 where
  pub value : Result ℕ Unknown
  pub reached : IsReached c count heaps value
  pub is : told ≡ winning_move_by c heaps value
