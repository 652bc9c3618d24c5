use Rattle.std.proofs.Common.{◌≡◌, length}
use Rattle.std.specs.Vec.Iter.{into_iter_items, into_iter_len}
use Rattle.oct_sync.proofs.Gathering.{Gathering, size_of}
use Rattle.oct_sync.proofs.deltas.put_delta_frames.Given as goal

abbrev pub invariant-loop-op : goal.invariant-loop-op
invariant-loop-op g l = record {
  gathering : Gathering l.fn.list l.pack.items (into_iter_items l.op-iterator) l.fn.out.items l.out.items;
  size : l.size ≡ size_of l.pack.items;
  len : into_iter_len l.op-iterator ≡ length (into_iter_items l.op-iterator);
}
