use Rattle.std.proofs.Common.{ap, ◌∙◌}
use Rattle.oct_ops.specs.Operations.{Operations, empty, union}
use Rattle.oct_ops.specs.OrderLaws.{op_cmp_total, op_cmp_exact}
use Rattle.oct_ops.specs.SetLaws.{union_comm, union-empty}
use Rattle.census_fold.proofs.reading.both.Goals as goal

pub returns : goal.returns
returns c =
    let one = c.args.one.now in
    let other = c.args.other.now in
    let first = c.in_ok-join.ensures.ok ∙ ap (λ (held : Operations). union held one) c.new-all.ensures ∙ union_comm op_cmp_total op_cmp_exact empty one ∙ union-empty op_cmp_total op_cmp_exact one in
    c.in_ok-join-2.ensures.ok ∙ ap (λ (held : Operations). union held other) first
