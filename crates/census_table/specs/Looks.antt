-- How lines are shown.
use Rattle.std.specs.Prelude.{ℕ, Bool, true, false, Option}
use Rattle.census_table.specs.Fitting.{fitted_to}
use Rattle.census_table.specs.LinePlaces.{Text}
use Rattle.census_table.specs.Table.{aligned}
use Rattle.census_table.specs.declared.look.Look.{Look}
use Rattle.census_table.specs.declared.look.Look.TheVariants.{Bare, Columns, Colors}
use Rattle.census_table.specs.declared.look.When.{When}
use Rattle.census_table.specs.declared.look.When.TheVariants.{Always, Never, Auto}

-- elsewhere than on a terminal they stay as they are, unless colours are always shown; there they have columns, and colours where neither the words
-- nor the environment ask for none
abbrev pub look_of : When → Bool → Bool → Look
look_of Always terminal plain = Colors
look_of Never true plain = Columns
look_of Never false plain = Bare
look_of Auto true true = Columns
look_of Auto true false = Colors
look_of Auto false plain = Bare

-- lines in columns have this width at most, where there is one; what stays as it is is never cut
abbrev pub shown : Look → Option ℕ → Text → Text
shown Bare width s = s
shown Columns width s = fitted_to width (aligned false s)
shown Colors width s = fitted_to width (aligned true s)
