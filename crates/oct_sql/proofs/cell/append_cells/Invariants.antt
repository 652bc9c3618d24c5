use Rattle.std.proofs.Common.{◌≡◌, ◌++◌, drop, map}
use Rattle.std.specs.List.{join_with_byte}
use Rattle.oct_ops.specs.Growth.{Extends}
use Rattle.oct_sql.proofs.Joining.{left_text}
use Rattle.oct_sql.specs.Cells.{cell_text}
use Rattle.oct_sql.proofs.cell.append_cells.Given as goal

abbrev pub invariant-loop-cell : goal.invariant-loop-cell
invariant-loop-cell g l = record {
  text : l.out.items ++ left_text l.is_later (map cell_text (drop l.cell-index l.cells)) ≡ l.fn.out.items ++ join_with_byte 44 (map cell_text l.cells);
  grown : Extends l.fn.out.items l.out.items;
}
