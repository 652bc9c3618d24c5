use Rattle.std.proofs.Common.{◌≡◌}
use Rattle.std.specs.List.{list_all}
use Rattle.oct_ops.specs.Limits.{keeps_old_limits}
use Rattle.oct_delta.proofs.each.each_keeps_old_limits.Given as goal

abbrev pub invariant-loop-op : goal.invariant-loop-op
invariant-loop-op g l = list_all keeps_old_limits l.op-iterator ≡ list_all keeps_old_limits l.fn.ops
