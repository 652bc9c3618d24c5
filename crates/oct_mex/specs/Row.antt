-- The nim-values of a game in a list.
use Rattle.std.specs.Prelude.{◌≡◌, ◌^◌, ◌≤◌, ℕ, map}
use Rattle.std.specs.Vec.{vec_len}
use Rattle.oct_code.specs.Code.{Code}
use Rattle.oct_mex.specs.Marks.{IsTableFor}
use Rattle.oct_mex.specs.NimValues.{nim_values}
use Rattle.oct_mex.specs.Rare.{IsFit, Lists}
use Rattle.oct_mex.specs.declared.row.Row.{Row}

-- the numbers in the cells are the first nim-values of the game, and the lists beside them are right
pub record IsRow {T A : Type 0} (number : T → ℕ) (c : Code) (row : Row T A) : Type 0 where
  pub values : map number row.values.items ≡ nim_values c (vec_len row.values)
  pub limited : vec_len row.values ≤ 2 ^ 32
  pub used : IsTableFor (map number row.values.items) row.used
  pub fit : IsFit c row.rare.mask
  pub listed : Lists row.rare.mask (map number row.values.items) (vec_len row.values) row.rare.heaps.items (map number row.rare.values.items)
