-- What a search knows.
use Rattle.std.specs.Prelude.{ℕ}
use Rattle.oct_code.specs.Code.{Code}

-- the nim-values of the heaps 0 to len - 1 in the game of the code
pub record Known : Type 0 where
  pub code : Code
  pub len : ℕ
