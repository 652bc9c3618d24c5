use Rattle.std.proofs.Common.{◌≡◌, ◌++◌}
use Rattle.std.specs.List.{flat_map}
use Rattle.oct_delta.specs.Text.{op_bytes}
use Rattle.oct_ops.specs.Growth.{Extends}
use Rattle.oct_delta.proofs.each.put_ops.Given as goal

abbrev pub invariant-loop-op : goal.invariant-loop-op
invariant-loop-op g l = record {
  written : l.out.items ++ flat_map op_bytes l.op-iterator ≡ l.fn.out.items ++ flat_map op_bytes l.fn.ops;
  kept : Extends l.fn.out.items l.out.items;
}
