use Rattle.std.proofs.Common.{ap, ◌∙◌}
use Rattle.oct_ops.specs.Operations.{empty, union}
use Rattle.oct_ops.specs.OrderLaws.{op_cmp_total, op_cmp_exact}
use Rattle.oct_ops.specs.SetLaws as laws
use Rattle.oct_record.specs.Content.{RecordContent}
use Rattle.oct_pages.proofs.parts.record_of.Goals as goal

pub returns : goal.returns
returns g c =
    let ops = c.args.store.now in
    c.in_ok-share_all.ensures.ok
    ∙ ap (λ (r : RecordContent). union r.ops ops) c.in-Ok.ensures.ok
    ∙ laws.union_comm op_cmp_total op_cmp_exact empty ops
    ∙ laws.union-empty op_cmp_total op_cmp_exact ops
