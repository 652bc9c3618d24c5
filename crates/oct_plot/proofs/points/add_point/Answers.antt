use Rattle.std.proofs.Common.{[], reverse, set, ap, sym, ◌∙◌}
use Rattle.std.proofs.lemmas.List.{get_or-map, map-set}
use Rattle.std.proofs.lemmas.Result.{on_ok_weaker}
use Rattle.oct_plot.specs.Rows.{turned_rows, with_column}
use Rattle.oct_plot.proofs.points.add_point.Goals as goal

pub returns : goal.returns
returns g c =
    let rows = c.args.rows.now.items in
    let row = c.args.point.row in
    let held = ap (λ cs. reverse cs.items) c.index_mut.ensures.value ∙ sym (get_or-map (λ cs. reverse cs.items) rows row c.index_mut.result.now [] c.requires) in
    on_ok_weaker c.add_column.result
    (λ e. map-set (λ cs. reverse cs.items) rows row c.add_column.new.columns ∙ ap (λ cs. set (turned_rows rows) row cs) (e ∙ ap (with_column c.args.point.column) held))
    c.add_column.ensures
