-- What is shown of a game by its first nim-values and the period that they prove.
use Rattle.std.specs.Prelude.{ℕ, ◌++◌, List}
use Rattle.oct_code.specs.Code.{Code}
use Rattle.oct_mex.specs.NimValues.{nim_values}
use Rattle.oct_plot.specs.Plot.{plot}
use Rattle.oct_text.specs.Words.{Text}
use Rattle.oct_text.specs.declared.form.Form.TheVariants.{Lines}
use Rattle.census_search.specs.FirstGames.{first_move, first_value, proved_period}
use Rattle.census_tell.specs.Asking.{value_text}
use Rattle.census_tell.specs.Moving.{move_text}

-- the picture of the values
abbrev pub picture : Code → ℕ → Text
picture c count = plot c (nim_values c count) (proved_period c count)

-- what is said of the value of a position
abbrev pub value_said : Code → ℕ → List ℕ → Text
value_said c count heaps = value_text Lines c heaps (first_value c count heaps)

-- and of a winning move
abbrev pub move_said : Code → ℕ → List ℕ → Text
move_said c count heaps = move_text Lines heaps (first_move c count heaps)

abbrev pub position : Code → ℕ → List ℕ → Text
position c count heaps = value_said c count heaps ++ move_said c count heaps
