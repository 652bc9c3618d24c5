-- The lines in columns, as they stand on a terminal.
use Rattle.std.specs.Prelude.{ℕ, ◌-◌, max, ◌&&◌, Bool, false, nat_lt, List, [], ◌∷◌, ◌++◌, codes, length, replicate, slice_index, slice_set, if◌then◌else◌}
use Rattle.census_table.specs.LinePlaces.{Text, begins, behind, says_period, says_refuted, start, stops}
use Rattle.census_table.specs.declared.line_place.LinePlace.{LinePlace}

-- ---- how wide the columns are

-- the column is at least so wide
abbrev pub noted : List ℕ → ℕ → ℕ → List ℕ
noted widths column width =
    if nat_lt column (length widths) then slice_set widths column (max (slice_index widths column) width)
    else widths ++ (width ∷ [])

-- a column is measured where the next one begins
abbrev pub measured_at : List ℕ → LinePlace → Text → List ℕ
measured_at widths place s = if begins place s then noted widths place.column place.width else widths

abbrev pub measured : List ℕ → LinePlace → Text → List ℕ
measured widths place [] = widths
measured widths place (b ∷ s) = measured (measured_at widths place (b ∷ s)) (behind false place (b ∷ s)) s

-- ---- what stands before a byte

-- the end of a colour
abbrev pub end_of : LinePlace → Text
end_of place = if place.is_colored then 27 ∷ codes "[0m" else []

-- red for what is refuted, green for a period
abbrev pub color_of : Bool → Text → Text
color_of colored s =
    if colored && says_refuted s then 27 ∷ codes "[31m"
    else (if colored && says_period s then 27 ∷ codes "[32m" else [])

-- spaces fill a column before the next one
abbrev pub front : Bool → List ℕ → LinePlace → Text → Text
front colored widths place s =
    if begins place s then end_of place ++ replicate (slice_index widths place.column - place.width) 32 ++ color_of colored s
    else (if stops place s then 27 ∷ codes "[0m" else [])

-- ---- the text

abbrev pub dressed : Bool → List ℕ → LinePlace → Text → Text
dressed colored widths place [] = []
dressed colored widths place (b ∷ s) = front colored widths place (b ∷ s) ++ (b ∷ dressed colored widths (behind colored place (b ∷ s)) s)

abbrev pub aligned : Bool → Text → Text
aligned colored s = dressed colored (measured [] (start s) s) (start s) s
