use Rattle.std.proofs.Common.{◌≡◌, ◌++◌, take}
use Rattle.std.specs.List.{flat_map}
use Rattle.oct_views.specs.Game.{block_row}
use Rattle.oct_views.proofs.blocks_tables.append_block_rows.Given as goal

abbrev pub invariant-loop-row : goal.invariant-loop-row
invariant-loop-row g l = l.out.items ≡ l.fn.out.items ++ flat_map (block_row l.fn.remarks) (take l.row-index l.blocks)
