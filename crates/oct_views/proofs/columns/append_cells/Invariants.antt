use Rattle.std.proofs.Common.{◌≡◌, ◌++◌, take}
use Rattle.std.specs.List.{flat_map}
use Rattle.oct_views.specs.Columns.{cell}
use Rattle.oct_views.proofs.columns.append_cells.Given as goal

abbrev pub invariant-loop-column : goal.invariant-loop-column
invariant-loop-column g l = l.out.items ≡ l.fn.out.items ++ flat_map (cell l.fn.row) (take l.column-index l.columns)
