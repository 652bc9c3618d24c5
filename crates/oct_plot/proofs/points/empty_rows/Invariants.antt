use Rattle.std.proofs.Common.{◌≡◌, [], replicate}
use Rattle.oct_plot.specs.Rows.{turned_rows}
use Rattle.oct_plot.proofs.points.empty_rows.Given as goal

abbrev pub invariant-loop : goal.invariant-loop
invariant-loop g l = turned_rows l.rows.items ≡ replicate l.counter []
