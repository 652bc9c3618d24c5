use Rattle.std.proofs.Common.{◌≡◌, ◌++◌, None}
use Rattle.oct_ops.specs.Operations.{listed}
use Rattle.oct_store.proofs.Counts.{authors_from}
use Rattle.oct_store.proofs.store.Store.authors.Given as goal

abbrev pub invariant-loop-op : goal.invariant-loop-op
invariant-loop-op g l = l.authors.items ++ authors_from l.current l.op-iterator ≡ authors_from None (listed l.self)
