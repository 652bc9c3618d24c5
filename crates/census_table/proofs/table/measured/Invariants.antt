use Rattle.std.proofs.Common.{◌≡◌, ◌≤◌, [], drop}
use Rattle.census_table.specs.LinePlaces.{start}
use Rattle.census_table.specs.Table.{measured}
use Rattle.census_table.proofs.table.measured.Given as goal

abbrev pub invariant-loop-i : goal.invariant-loop-i
invariant-loop-i l = record {
  same : measured l.widths.items l.place (drop l.i l.lines) ≡ measured [] (start l.lines) l.lines;
  column : l.place.column ≤ l.i;
  width : l.place.width ≤ l.i;
}
