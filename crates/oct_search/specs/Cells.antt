-- Cells of two widths.
use Rattle.std.specs.Prelude.{ℕ, ◌^◌}
use Rattle.std.specs.Vec.{vec_len}
use Rattle.oct_code.specs.Code.{Code}
use Rattle.oct_mex.specs.Row.{IsRow}
use Rattle.oct_search.specs.declared.cells.Cells.{Cells}
use Rattle.oct_search.specs.declared.cells.Cells.TheVariants.{Narrow, Wide}

-- how many values there are
abbrev pub len_of : {A : Type 0} → Cells A → ℕ
len_of (Narrow row) = vec_len row.values
len_of (Wide row) = vec_len row.values

-- the least number that does not fit
abbrev pub bound_of : {A : Type 0} → Cells A → ℕ
bound_of (Narrow row) = 2 ^ 8
bound_of (Wide row) = 2 ^ 16

-- they are the first nim-values of the game
abbrev pub IsKnown : {A : Type 0} → Code → Cells A → Type 0
IsKnown c (Narrow row) = IsRow (λ x. x) c row
IsKnown c (Wide row) = IsRow (λ x. x) c row
