use Rattle.std.proofs.Common.{◌≡◌, ◌+◌, map, drop, length}
use Rattle.std.specs.List.{All, enumerate_from}
use Rattle.oct_ops.specs.Arranged.{arranged}
use Rattle.oct_plot.specs.Points.{columns, frame_of, point_at, point_cmp, scaled}
use Rattle.oct_plot.specs.Rows.{row_points, turned_rows}
use Rattle.oct_plot.proofs.Rows.{IsBehind}
use Rattle.oct_plot.proofs.points.rows_of.Given as goal

abbrev pub invariant-loop-place : goal.invariant-loop-place
invariant-loop-place g l = record {
  all : length l.rows.items ≡ 641;
  behind : All (IsBehind (scaled l.place l.frame.heaps columns)) (turned_rows l.rows.items);
  points : row_points 0 (turned_rows l.rows.items) ≡ arranged point_cmp (map (point_at (frame_of l.first l.values)) (enumerate_from (l.first + l.place) (drop l.place l.values)));
}
