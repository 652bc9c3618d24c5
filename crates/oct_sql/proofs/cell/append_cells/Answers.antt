use Rattle.std.proofs.Common.{refl}
use Rattle.std.proofs.lemmas.List.{drop_all}
use Rattle.oct_ops.proofs.Growing.{extends_same, extends_trans}
use Rattle.oct_sql.proofs.Joining.{all_written, written_at}
use Rattle.oct_sql.specs.Cells.{cell_text}
use Rattle.oct_sql.proofs.cell.append_cells.Goals as goal

pub loop-cell-init : goal.loop-cell-init
loop-cell-init g c = record { text = refl; grown = extends_same c.args.out.now.items }

pub loop-cell-preserved : goal.loop-cell-preserved
loop-cell-preserved g c = record {
  text = written_at cell_text c.loop-cell.is_later c.args.cells.now c.loop-cell.cell-index c.cell-item.result _ c.loop-cell.out.items
      c.append_next_cell.new.out.items _ c.loop-cell-test.true c.cell-item.is c.in_ok-append_next_cell.ensures.ok c.loop-cell.invariant.text;
  grown = extends_trans c.args.out.now.items c.loop-cell.out.items c.append_next_cell.new.out.items c.loop-cell.invariant.grown c.append_next_cell.ensures.grown;
}

pub returns-clause-ok : goal.returns-clause-ok
returns-clause-ok g c = all_written cell_text c.loop-cell.is_later _ c.loop-cell.out.items _ (drop_all c.loop-cell.cell-index c.args.cells.now c.loop-cell-test.false) c.loop-cell.invariant.text
