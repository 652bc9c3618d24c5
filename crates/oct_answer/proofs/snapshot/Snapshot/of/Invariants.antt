use Rattle.std.proofs.Common.{◌≡◌, ◌++◌}
use Rattle.oct_ops.specs.Operations.{listed}
use Rattle.oct_answer.proofs.snapshot.Snapshot.of.Given as goal

abbrev pub invariant-loop-op : goal.invariant-loop-op
invariant-loop-op g l = l.ops.items ++ l.op-iterator ≡ listed l.said.ops
