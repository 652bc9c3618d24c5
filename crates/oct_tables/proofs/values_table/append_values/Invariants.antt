use Rattle.std.proofs.Common.{◌≡◌, ◌++◌, take}
use Rattle.std.specs.List.{enumerate_from, flat_map}
use Rattle.oct_tables.specs.Values.{value_text}
use Rattle.oct_tables.proofs.values_table.append_values.Given as goal

abbrev pub invariant-loop-place : goal.invariant-loop-place
invariant-loop-place g l = l.out.items ≡ l.fn.out.items ++ flat_map (value_text l.layout l.greatest) (take l.place (enumerate_from l.layout.first l.values))
