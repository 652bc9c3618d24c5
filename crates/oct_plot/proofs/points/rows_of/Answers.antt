use Rattle.std.proofs.Common.{arith, ◌≡◌, ◌+◌, ◌-◌, ◌<◌, ◌≤◌, [], map, length, reverse, sym, ap, ◌∙◌, subst}
use Rattle.std.specs.BTreeSet.{insert_key}
use Rattle.std.specs.List.{All, enumerate_from}
use Rattle.std.proofs.lemmas.List.{drop_all, length-map, length-set}
use Rattle.std.proofs.lemmas.List.Elements.{All-replicate, All-weaker}
use Rattle.oct_ops.specs.Arranged.{arranged}
use Rattle.oct_plot.specs.Points.{columns, frame_of, point_at, point_cmp, scaled}
use Rattle.oct_plot.specs.Rows.{row_points, turned_rows, with_point}
use Rattle.oct_plot.proofs.Rows.{IsBehind, behind_less, behind_point, none_in_rows, put_point}
use Rattle.oct_plot.proofs.Within.{column_falls, point_column, point_next, point_within}
use Rattle.oct_plot.proofs.points.rows_of.Goals as goal

pub loop-place-init : goal.loop-place-init
loop-place-init g c =
    let rows = c.in_ok-rows.rows.items in
    let first = c.args.first in
    let none = drop_all (length c.args.values.now) c.args.values.now (omega arith) in
    record {
      all = sym (length-map rows (λ cs. reverse cs.items)) ∙ ap length c.in_ok-rows.ensures;
      behind = subst (All (IsBehind _)) (sym c.in_ok-rows.ensures) (All-replicate (IsBehind _) 641 [] tt);
      points = ap (row_points 0) c.in_ok-rows.ensures ∙ none_in_rows 0 641
          ∙ ap (λ vs. arranged point_cmp (map (point_at (frame_of first c.args.values.now)) (enumerate_from (first + length c.args.values.now) vs))) (sym none);
    }

pub add_point-requires : goal.add_point-requires
add_point-requires g c =
    let place = c.loop-place.place in
    let row = point_within c.args.first c.args.values.now (c.args.first + (place - 1)) (place - 1) _ c.of-frame.result c.point_at-point.result c.of-frame.ensures.value c.point_at-point.ensures
    (omega (arith, c.loop-place-test.true, c.loop-place.auto.place)) in
    omega (arith, row, c.loop-place.invariant.all)

pub loop-place-preserved : goal.loop-place-preserved
loop-place-preserved g c =
    let p = c.point_at-point.result in
    let place = c.loop-place.place in
    let heaps = c.of-frame.result.heaps in
    let held = c.loop-place.rows.items in
    let rows = turned_rows held in
    let new = c.add_point.new.rows.items in
    let some : 0 < place = omega (arith, c.loop-place-test.true) in
    let known : place ≤ length c.args.values.now = omega (arith, c.loop-place.auto.place) in
    let many : length rows ≡ 641 = length-map held (λ cs. reverse cs.items) ∙ c.loop-place.invariant.all in
    let row = point_within c.args.first c.args.values.now (c.args.first + (place - 1)) (place - 1) _ c.of-frame.result p c.of-frame.ensures.value c.point_at-point.ensures (omega (arith, some, known)) in
    let inside : p.row < length rows = omega (arith, row, many) in
    let column = point_column c.args.first c.args.values.now (place - 1) _ c.of-frame.result p c.of-frame.ensures.value c.point_at-point.ensures in
    let less : p.column ≤ scaled place heaps columns = omega (arith, column, column_falls place heaps c.of-frame.ensures.valid.heap) in
    let before = All-weaker (IsBehind (scaled place heaps columns)) (IsBehind p.column) (behind_less p.column (scaled place heaps columns) less) rows c.loop-place.invariant.behind in
    let added : turned_rows new ≡ with_point p rows = c.in_ok-add_point.ensures in
    record {
      all = sym (length-map new (λ cs. reverse cs.items)) ∙ ap length added ∙ length-set rows p.row _ ∙ many;
      behind = subst (λ b. All (IsBehind b) (turned_rows new)) column (subst (All (IsBehind p.column)) (sym added) (behind_point p rows inside before));
      points = ap (row_points 0) added ∙ sym (put_point p rows inside before) ∙ ap (λ ps. insert_key point_cmp ps p) c.loop-place.invariant.points
          ∙ point_next c.args.first place c.args.values.now _ c.of-frame.result p c.of-frame.ensures.value c.point_at-point.ensures some known;
    }
