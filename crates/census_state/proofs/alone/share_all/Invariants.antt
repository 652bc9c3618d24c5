use Rattle.oct_ops.specs.OrderLaws.{op_cmp_total, op_cmp_exact}
use Rattle.oct_join.proofs.SetMerging.{JoinsAlong}
use Rattle.census_state.proofs.alone.share_all.Given as goal

abbrev pub invariant-loop-op : goal.invariant-loop-op
invariant-loop-op l = JoinsAlong op_cmp_total op_cmp_exact l.fn.part l.ops l.part l.op-iterator
