use Rattle.std.proofs.Common.{◌≡◌, ◌++◌, drop, map, reverse}
use Rattle.oct_plot.specs.Rows.{row_point}
use Rattle.oct_plot.proofs.points.append_row.Given as goal

abbrev pub invariant-loop-place : goal.invariant-loop-place
invariant-loop-place g l = l.found.items ≡ l.fn.found.items ++ map (row_point l.row) (reverse (drop l.place l.columns))
