-- Where the nim-values of heaps fall on a plot.
use Rattle.std.specs.Prelude.{ℕ, ◌-◌, ◌*◌, ◌/◌, ◌^◌, ◌<◌, List, map, length, max, fold}
use Rattle.std.specs.List.{enumerate_from}
use Rattle.std.specs.Ordering.{nat_cmp, then_cmp, on}
use Rattle.std.specs.declared.cmp.Ordering.{Ordering}
use Rattle.oct_ops.specs.Arranged.{arranged}
use Rattle.oct_plot.specs.declared.points.Frame.{Frame}
use Rattle.oct_plot.specs.declared.points.Point.{Point}

-- the first heap, how far the last one is beyond it, and the greatest value, of the values from that heap on; the last two are at least 1
abbrev pub frame_of : ℕ → List ℕ → Frame
frame_of first values = record { first = first; heaps = max (length values - 1) 1; values = max (fold max 0 values) 1 }

-- all fit 32 bits, and the last two are at least 1
pub record IsFrame (frame : Frame) : Type 0 where
  pub first : frame.first < 2 ^ 32
  pub heap : 0 < frame.heaps
  pub heaps : frame.heaps < 2 ^ 32
  pub value : 0 < frame.values
  pub values : frame.values < 2 ^ 32

-- a length, where the whole gets this size, rounded down
abbrev pub scaled : ℕ → ℕ → ℕ → ℕ
scaled n whole size = n * size / whole

-- how many columns and rows of points stand between the first and the last of them
abbrev pub columns : ℕ
columns = 1400

abbrev pub rows : ℕ
rows = 640

-- where a heap with its value falls
abbrev pub point_at : Frame → ℕ × ℕ → Point
point_at frame h = record { column = scaled (h.0 - frame.first) frame.heaps columns; row = scaled h.1 frame.values rows }

-- by row, then by column
abbrev pub point_cmp : Point → Point → Ordering
point_cmp = then_cmp (on (λ p. p.row) nat_cmp) (on (λ p. p.column) nat_cmp)

-- each heap from the first one on with its value
abbrev pub heaps_of : ℕ → List ℕ → List (ℕ × ℕ)
heaps_of first values = enumerate_from first values

-- the points of these values, row by row from below to above and from left to right, each once
abbrev pub points_of : ℕ → List ℕ → List Point
points_of first values = arranged point_cmp (map (point_at (frame_of first values)) (heaps_of first values))
