use Rattle.std.proofs.Common.{◌≡◌, ◌++◌, take}
use Rattle.std.specs.List.{flat_map}
use Rattle.oct_views.specs.Game.{period_row}
use Rattle.oct_views.proofs.periods_table.append_period_rows.Given as goal

abbrev pub invariant-loop-row : goal.invariant-loop-row
invariant-loop-row g l = l.out.items ≡ l.fn.out.items ++ flat_map (period_row l.fn.remarks l.fn.values) (take l.row-index l.claims)
