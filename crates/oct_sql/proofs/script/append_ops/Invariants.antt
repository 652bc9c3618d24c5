use Rattle.std.proofs.Common.{◌≡◌, ◌++◌}
use Rattle.std.specs.List.{flat_map}
use Rattle.oct_ops.specs.Growth.{Extends}
use Rattle.oct_ops.specs.Operations.{listed}
use Rattle.oct_sql.specs.Script.{operation_row}
use Rattle.oct_sql.proofs.script.append_ops.Given as goal

abbrev pub invariant-loop-op : goal.invariant-loop-op
invariant-loop-op g l = record {
  text : l.out.items ++ flat_map operation_row l.op-iterator ≡ l.fn.out.items ++ flat_map operation_row (listed l.fn.said.ops);
  grown : Extends l.fn.out.items l.out.items;
}
