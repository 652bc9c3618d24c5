use Rattle.std.proofs.Common.{◌≡◌, ◌++◌, sym, ap, ◌∙◌}
use Rattle.std.specs.List.{flat_map}
use Rattle.oct_ops.proofs.Growing.{extends_same, extends_trans}
use Rattle.oct_ops.specs.Operations.{Operations, listed}
use Rattle.oct_sheet.proofs.Pushing.{text_pushed}
use Rattle.oct_sql.specs.Script.{operation_row}
use Rattle.oct_sql.proofs.script.append_ops.Goals as goal

pub loop-op-init : goal.loop-op-init
loop-op-init g c =
    let all : c.into_iter-op-iterator.result ≡ listed c.args.said.now.ops =
    c.into_iter-op-iterator.ensures.into_iter_gives ∙ c.iter-op-items.ensures ∙ ap (λ (held : Operations). listed held) c.store.ensures in
    record {
      text = ap (λ ops. c.args.out.now.items ++ flat_map operation_row ops) all;
      grown = extends_same c.args.out.now.items;
    }

pub loop-op-preserved : goal.loop-op-preserved
loop-op-preserved g c = record {
  text = text_pushed operation_row c.in-Some.op.now c.next.new.self c.loop-op.out.items c.append_op.new.out.items _ c.in_ok-append_op.ensures.ok
      (ap (λ ops. c.loop-op.out.items ++ flat_map operation_row ops) (sym c.in-Some.ensures.steps) ∙ c.loop-op.invariant.text);
  grown = extends_trans c.args.out.now.items c.loop-op.out.items c.append_op.new.out.items c.loop-op.invariant.grown c.append_op.ensures.grown;
}
