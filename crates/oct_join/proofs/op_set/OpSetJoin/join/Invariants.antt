use Rattle.oct_ops.specs.OrderLaws.{op_cmp_total, op_cmp_exact}
use Rattle.oct_join.specs.Shared.{contents}
use Rattle.oct_join.proofs.SetMerging.{JoinsAlong}
use Rattle.oct_join.proofs.op_set.OpSetJoin.join.Given as goal

abbrev pub invariant-loop-op : goal.invariant-loop-op
invariant-loop-op g l = JoinsAlong op_cmp_total op_cmp_exact l.fn.self l.other l.self (contents l.op-iterator)
