use Rattle.std.proofs.Common.{sym, ◌∙◌}
use Rattle.oct_ops.specs.SetLaws.{insert_held}
use Rattle.oct_ops.specs.OrderLaws.{op_cmp_total, op_cmp_exact}
use Rattle.oct_join.proofs.op_set.OpSet.add.Goals as goal

pub returns-then-contains-clause-ok : goal.returns-then-contains-clause-ok
returns-then-contains-clause-ok g c = sym (insert_held op_cmp_total op_cmp_exact _ _ (sym c.contains.ensures ∙ c.if-contains.true))
