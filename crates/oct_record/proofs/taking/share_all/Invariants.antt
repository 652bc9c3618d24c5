use Rattle.std.proofs.Common.{◌≡◌}
use Rattle.oct_join.proofs.SetMerging.{JoinsAlong}
use Rattle.oct_ops.specs.OrderLaws.{op_cmp_total, op_cmp_exact}
use Rattle.oct_record.proofs.taking.share_all.Given as goal

abbrev pub invariant-loop-op : goal.invariant-loop-op
invariant-loop-op g l = record {
  along : JoinsAlong op_cmp_total op_cmp_exact (g.H.Holder.content l.fn.holder).ops l.store (g.H.Holder.content l.holder).ops l.op-iterator;
  author : (g.H.Holder.content l.holder).author ≡ (g.H.Holder.content l.fn.holder).author;
}
