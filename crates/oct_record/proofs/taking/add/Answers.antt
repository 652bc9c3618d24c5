use Rattle.std.proofs.Common.{◌≡◌, true, sym, ap, ◌∙◌}
use Rattle.oct_ops.specs.Operations as set
use Rattle.oct_ops.specs.Operations.{Operations}
use Rattle.oct_ops.specs.SetLaws.{insert_held}
use Rattle.oct_ops.specs.OrderLaws.{op_cmp_total, op_cmp_exact}
use Rattle.oct_record.specs.Content.{RecordContent}
use Rattle.oct_record.proofs.taking.add.Goals as goal

pub returns-then-contains-clause-ok : goal.returns-then-contains-clause-ok
returns-then-contains-clause-ok g c =
    let old = g.H.Holder.content c.args.holder.now in
    let op = c.args.op.now in
    let is : c.store.result.now ≡ old.ops = c.store.ensures ∙ ap (λ (r : RecordContent). r.ops) c.said-said.ensures in
    let held : set.contains old.ops op ≡ true = ap (λ s. set.contains s op) (sym is) ∙ sym c.contains.ensures ∙ c.if-contains.true in
    ap (λ s. record { author = old.author; ops = s }) (sym (insert_held op_cmp_total op_cmp_exact old.ops op held))
