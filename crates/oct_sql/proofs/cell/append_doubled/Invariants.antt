use Rattle.std.proofs.Common.{◌≡◌, ◌++◌, take}
use Rattle.std.specs.List.{flat_map}
use Rattle.oct_sql.specs.Cells.{doubled_byte}
use Rattle.oct_sql.proofs.cell.append_doubled.Given as goal

abbrev pub invariant-loop-byte : goal.invariant-loop-byte
invariant-loop-byte g l = l.out.items ≡ l.fn.out.items ++ flat_map doubled_byte (take l.byte-index l.text)
