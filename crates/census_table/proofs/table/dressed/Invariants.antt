use Rattle.std.proofs.Common.{◌≡◌, ◌≤◌, ◌++◌, drop}
use Rattle.census_table.specs.LinePlaces.{start}
use Rattle.census_table.specs.Table.{dressed}
use Rattle.census_table.proofs.table.dressed.Given as goal

abbrev pub invariant-loop-i : goal.invariant-loop-i
invariant-loop-i l = record {
  same : l.text.items ++ dressed l.is_colored l.widths l.place (drop l.i l.lines) ≡ dressed l.is_colored l.widths (start l.lines) l.lines;
  column : l.place.column ≤ l.i;
  width : l.place.width ≤ l.i;
}
