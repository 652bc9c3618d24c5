use Rattle.std.proofs.Common.{◌≡◌, ◌++◌, take}
use Rattle.std.specs.List.{flat_map}
use Rattle.oct_views.specs.Game.{broken_row}
use Rattle.oct_views.proofs.periods_table.append_broken_rows.Given as goal

abbrev pub invariant-loop-row : goal.invariant-loop-row
invariant-loop-row g l = l.out.items ≡ l.fn.out.items ++ flat_map (λ r. broken_row l.fn.remarks l.fn.values l.fn.which r r.status) (take l.row-index l.claims)
