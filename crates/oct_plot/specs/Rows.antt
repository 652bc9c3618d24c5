-- The points of a plot, row by row.
use Rattle.std.specs.Prelude.{ℕ, ◌+◌, ◌==◌, List, [], ◌∷◌, ◌++◌, map, reverse, set, get_or, if◌then◌else◌}
use Rattle.std.specs.Prelude.{Vec}
use Rattle.oct_plot.specs.declared.points.Point.{Point}

-- the point of a row and a column
abbrev pub row_point : ℕ → ℕ → Point
row_point r c = record { row = r; column = c }

-- the points of the rows from the r-th on, each with its columns
abbrev pub row_points : ℕ → List (List ℕ) → List Point
row_points r [] = []
row_points r (cs ∷ rows) = map (row_point r) cs ++ row_points (r + 1) rows

-- the columns of each row from left to right, where they are held from right to left
abbrev pub turned_rows : {A : Type 0} → List (Vec ℕ A) → List (List ℕ)
turned_rows rows = map (λ row. reverse row.items) rows

-- the columns of a row with one before them, unless it is the first of them
abbrev pub with_column : ℕ → List ℕ → List ℕ
with_column c [] = c ∷ []
with_column c (d ∷ ds) = if d == c then d ∷ ds else c ∷ d ∷ ds

-- the rows with a point, which is the first of its row
abbrev pub with_point : Point → List (List ℕ) → List (List ℕ)
with_point p rows = set rows p.row (with_column p.column (get_or rows p.row []))
