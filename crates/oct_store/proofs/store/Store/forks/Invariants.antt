use Rattle.std.proofs.Common.{◌≡◌, ◌++◌, ◌+◌, ◌≤◌, length, None}
use Rattle.oct_ops.specs.Operations.{listed}
use Rattle.oct_store.proofs.Counts.{forks_from, contents_of}
use Rattle.oct_store.proofs.store.Store.forks.Given as goal

abbrev pub invariant-loop-op : goal.invariant-loop-op
invariant-loop-op g l = record {
  gathered : l.forks.items ++ forks_from l.current l.op-iterator ≡ forks_from None (listed l.self);
  room : contents_of l.current + length l.op-iterator ≤ length (listed l.self);
}
