use Rattle.std.proofs.Common.{◌≡◌, ◌++◌, drop}
use Rattle.oct_plot.specs.Rows.{row_points, turned_rows}
use Rattle.oct_plot.proofs.points.listed.Given as goal

abbrev pub invariant-loop-row : goal.invariant-loop-row
invariant-loop-row g l = l.found.items ++ row_points l.row (turned_rows (drop l.row l.rows)) ≡ row_points 0 (turned_rows l.rows)
