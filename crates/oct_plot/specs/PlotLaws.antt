-- What holds of plots: a plot shows what is known, and nothing else.
use Rattle.std.specs.Prelude.{◌≡◌, ℕ, Bool, true, ◌&&◌, nat_le, List}
use Rattle.std.specs.List.{enumerate_from, list_any}
use Rattle.std.specs.Ordering.{eq_by_cmp}
use Rattle.oct_ops.specs.Sets.{rises}
use Rattle.oct_plot.specs.Plot.{between}
use Rattle.oct_plot.specs.Points.{frame_of, heaps_of, point_at, point_cmp, points_of}
use Rattle.oct_plot.specs.declared.points.Point.{Point}

-- a point is drawn of the values from the first heap on
abbrev pub is_drawn : ℕ → List ℕ → Point → Bool
is_drawn first values p = list_any (eq_by_cmp point_cmp p) (points_of first values)

-- the value of a known heap falls on the point
abbrev pub is_known : ℕ → List ℕ → Point → Bool
is_known first values p = list_any (λ h. eq_by_cmp point_cmp p (point_at (frame_of first values) h)) (heaps_of first values)

abbrev pub DrawnWhereKnown : Type 0
DrawnWhereKnown = (first : ℕ) (values : List ℕ) (p : Point) → is_drawn first values p ≡ is_known first values p

-- of all known heaps, each with its value, one from the first to the last that are asked for has a value that falls on the point
abbrev pub is_asked : ℕ → ℕ → List ℕ → Point → Bool
is_asked from to values p =
    list_any (λ h. (nat_le from h.0 && nat_le h.0 to) && eq_by_cmp point_cmp p (point_at (frame_of from (between from to values)) h)) (enumerate_from 0 values)

abbrev pub DrawnWhereAsked : Type 0
DrawnWhereAsked = (from to : ℕ) (values : List ℕ) (p : Point) → is_drawn from (between from to values) p ≡ is_asked from to values p

-- the points rise strictly by row and column
abbrev pub DrawnOnce : Type 0
DrawnOnce = (first : ℕ) (values : List ℕ) → rises point_cmp (points_of first values) ≡ true
