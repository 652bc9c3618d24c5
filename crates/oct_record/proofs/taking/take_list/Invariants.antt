use Rattle.std.proofs.Common.{◌≡◌, length}
use Rattle.std.specs.Vec.Iter.{into_iter_items, into_iter_len}
use Rattle.oct_record.proofs.Along.{TakesAlong}
use Rattle.oct_record.proofs.taking.take_list.Given as goal

abbrev pub invariant-loop-op : goal.invariant-loop-op
invariant-loop-op g l = record {
  along : TakesAlong (g.H.Holder.content l.fn.holder) (g.H.Holder.content l.holder) l.fn.list (into_iter_items l.op-iterator) l.done l.new;
  len : into_iter_len l.op-iterator ≡ length (into_iter_items l.op-iterator);
}
