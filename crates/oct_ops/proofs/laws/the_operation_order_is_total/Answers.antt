use Rattle.oct_ops.specs.OrderLaws.{op_cmp_total, op_cmp_exact}
use Rattle.oct_ops.proofs.laws.the_operation_order_is_total.Goals as goal

pub returns-clause-total : goal.returns-clause-total
returns-clause-total c = op_cmp_total

pub returns-clause-equal : goal.returns-clause-equal
returns-clause-equal c = op_cmp_exact
