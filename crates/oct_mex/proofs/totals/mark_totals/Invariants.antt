use Rattle.std.proofs.Common.{◌≡◌, length, map}
use Rattle.std.specs.List.{All}
use Rattle.oct_mex.specs.Totals.{AddsTotals, IsLong, IsTable}
use Rattle.oct_mex.proofs.totals.mark_totals.Given as goal

abbrev pub invariant-loop-removed : goal.invariant-loop-removed
invariant-loop-removed g l = record {
  count : length l.tables ≡ length l.initial.tables;
  long : All (IsLong (length l.initial.marks)) l.tables;
  kept : All (IsTable l.mask (map g.T.Cell.number l.values)) l.tables;
  marked : AddsTotals l.code (map g.T.Cell.number l.values) (length l.values) l.mask l.end l.removed l.initial.marks l.marks;
}
