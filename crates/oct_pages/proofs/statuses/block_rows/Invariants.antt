use Rattle.std.proofs.Common.{◌≡◌, true, ◌++◌, map}
use Rattle.std.specs.List.{list_all}
use Rattle.oct_ops.specs.Operations.{listed}
use Rattle.oct_ops.specs.Sets.{contains}
use Rattle.oct_pages.specs.Catalogue.{blocks_of}
use Rattle.oct_period.specs.Claims.{claims_in}
use Rattle.oct_verify.specs.Filing.{blocks_in}
use Rattle.oct_pages.specs.Sheet.{block_row}
use Rattle.oct_pages.proofs.statuses.block_rows.Given as goal

abbrev pub invariant-loop-op : goal.invariant-loop-op
invariant-loop-op g l = record {
  rows : l.rows.items ++ map (block_row (blocks_in l.game.blocks) (claims_in l.game.claims)) (blocks_of l.code l.op-iterator)
      ≡ map (block_row (blocks_in l.game.blocks) (claims_in l.game.claims)) (blocks_of l.code (listed l.ops));
  held : list_all (contains l.game.blocks) (blocks_of l.code l.op-iterator) ≡ true;
}
