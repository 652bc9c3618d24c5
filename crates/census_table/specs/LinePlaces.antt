-- Where in the line of a game a byte stands.
use Rattle.std.specs.Prelude.{ℕ, ◌+◌, ◌==◌, ◌&&◌, ◌||◌, Bool, false, not, List, [], ◌∷◌, codes, if◌then◌else◌}
use Rattle.std.specs.List.{starts_with}
use Rattle.census_table.specs.declared.line_place.LinePlace.{LinePlace}

abbrev pub Text : Type 0
Text = List ℕ

-- the text begins with the other one
abbrev pub fronts : Text → Text → Bool
fronts s front = starts_with (λ x y. x == y) s front

-- the first line says how much of its game is known: its first space begins that word
abbrev pub is_game : Text → Bool
is_game [] = false
is_game (b ∷ s) = if b == 32 then fronts (b ∷ s) (codes " known ") else is_game s

-- `no period` is followed by the counts of blocks
abbrev pub says_period : Text → Bool
says_period s = fronts s (codes " period ") && not (fronts s (codes " period blocks "))

abbrev pub says_refuted : Text → Bool
says_refuted s = fronts s (codes " refuted ") && not (fronts s (codes " refuted 0 "))

abbrev pub begins_column : Text → Bool
begins_column s =
    fronts s (codes " known ") || (says_period s || (fronts s (codes " no ") || (fronts s (codes " blocks ") || (fronts s (codes " refuted ") || (fronts s (codes " pending ") || fronts s (codes " claims "))))))

-- ---- places

abbrev pub start : Text → LinePlace
start s = record { is_game = is_game s; column = 0; width = 0; is_colored = false }

abbrev pub begins : LinePlace → Text → Bool
begins place s = place.is_game && begins_column s

-- what is colored ends there, and no column
abbrev pub stops : LinePlace → Text → Bool
stops place s = place.is_colored && (fronts s (codes "\n") || (fronts s (codes " unclaimed") || fronts s (codes " withdrawn ")))

-- the place behind the first byte of these; colours begin only where they are wanted
abbrev pub behind : Bool → LinePlace → Text → LinePlace
behind colored place [] = place
behind colored place (b ∷ s) =
    if b == 10 then start s
    else (if begins place (b ∷ s)
    then record place { column = place.column + 1; width = 1; is_colored = colored && (says_period (b ∷ s) || says_refuted (b ∷ s)) }
    else record place { width = place.width + 1; is_colored = place.is_colored && not (stops place (b ∷ s)) })
