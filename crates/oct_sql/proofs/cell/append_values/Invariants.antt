use Rattle.std.proofs.Common.{◌≡◌, ◌++◌, drop, map}
use Rattle.std.specs.List.{join_with_byte}
use Rattle.oct_ops.specs.Growth.{Extends}
use Rattle.oct_sql.proofs.Joining.{left_text}
use Rattle.std.specs.Fmt.{decimal}
use Rattle.oct_sql.proofs.cell.append_values.Given as goal

abbrev pub invariant-loop-value : goal.invariant-loop-value
invariant-loop-value g l = record {
  text : l.out.items ++ left_text l.is_later (map decimal (drop l.value-index l.values)) ≡ l.fn.out.items ++ join_with_byte 44 (map decimal l.values);
  grown : Extends l.fn.out.items l.out.items;
}
