-- What holds of lines that fit a terminal.
use Rattle.std.specs.Prelude.{◌≡◌, ℕ, ◌==◌, ◌≤◌, ◌&&◌, nat_le, Bool, true, false, [], ◌∷◌, if◌then◌else◌}
use Rattle.census_table.specs.LinePlaces.{Text}
use Rattle.census_table.specs.Fitting.{fitted, limit, seen}
use Rattle.census_table.specs.declared.fitting.Part.TheVariants.{Line, Front}

-- each line behind the first is at most so wide
abbrev pub later_fit : ℕ → Text → Bool
later_fit width [] = true
later_fit width (b ∷ s) = if b == 10 then nat_le (seen Line false s) width && later_fit width s else later_fit width s

-- each line is
abbrev pub all_fit : ℕ → Text → Bool
all_fit width s = nat_le (seen Line false s) width && later_fit width s

-- lines that fit stay as they are
abbrev pub FittingLinesStay : Type 0
FittingLinesStay = (width : ℕ) (s : Text) → all_fit width s ≡ true → fitted width s ≡ s

-- the front of a line is shown, however narrow the terminal is
abbrev pub FrontsStay : Type 0
FrontsStay = (width : ℕ) (s : Text) → seen Front false s ≤ limit width s
