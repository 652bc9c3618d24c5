use Rattle.std.proofs.Common.{◌≡◌, ◌++◌, take}
use Rattle.std.specs.List.{flat_map}
use Rattle.oct_tables.specs.Tables.{column}
use Rattle.oct_tables.proofs.tables.append_columns.Given as goal

abbrev pub invariant-loop-name : goal.invariant-loop-name
invariant-loop-name g l = l.out.items ≡ l.fn.out.items ++ flat_map (λ name. column name.now) (take l.name-index l.columns)
