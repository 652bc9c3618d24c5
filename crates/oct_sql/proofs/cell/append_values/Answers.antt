use Rattle.std.proofs.Common.{refl}
use Rattle.std.proofs.lemmas.List.{drop_all}
use Rattle.oct_ops.proofs.Growing.{extends_same, extends_trans}
use Rattle.oct_sql.proofs.Joining.{all_written, written_at}
use Rattle.std.specs.Fmt.{decimal}
use Rattle.oct_sql.proofs.cell.append_values.Goals as goal

pub loop-value-init : goal.loop-value-init
loop-value-init g c = record { text = refl; grown = extends_same c.args.out.now.items }

pub loop-value-preserved : goal.loop-value-preserved
loop-value-preserved g c = record {
  text = written_at decimal c.loop-value.is_later c.args.values.now c.loop-value.value-index _ 0 c.loop-value.out.items
      c.append_next_value.new.out.items _ c.loop-value-test.true refl c.in_ok-append_next_value.ensures.ok c.loop-value.invariant.text;
  grown = extends_trans c.args.out.now.items c.loop-value.out.items c.append_next_value.new.out.items c.loop-value.invariant.grown c.append_next_value.ensures.grown;
}

pub returns-clause-ok : goal.returns-clause-ok
returns-clause-ok g c = all_written decimal c.loop-value.is_later _ c.loop-value.out.items _ (drop_all c.loop-value.value-index c.args.values.now c.loop-value-test.false) c.loop-value.invariant.text
