use Rattle.std.proofs.Common.{◌≡◌, ◌++◌, take}
use Rattle.std.specs.List.{flat_map}
use Rattle.oct_views.specs.Game.{refuted_row}
use Rattle.oct_views.proofs.blocks_tables.append_refuted_rows.Given as goal

abbrev pub invariant-loop-row : goal.invariant-loop-row
invariant-loop-row g l = l.out.items ≡ l.fn.out.items ++ flat_map (λ r. refuted_row l.fn.remarks l.fn.which r.dot r.status) (take l.row-index l.blocks)
