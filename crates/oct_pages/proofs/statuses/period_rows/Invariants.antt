use Rattle.std.proofs.Common.{◌≡◌, ◌++◌, map}
use Rattle.oct_ops.specs.Sets as sets
use Rattle.oct_period.specs.Claims.{AreOfGame}
use Rattle.oct_verify.specs.Filing.{blocks_in}
use Rattle.oct_pages.specs.Sheet.{period_row}
use Rattle.oct_pages.proofs.statuses.period_rows.Given as goal

abbrev pub invariant-loop-claim : goal.invariant-loop-claim
invariant-loop-claim g l = record {
  rows : l.rows.items ++ map (period_row (blocks_in l.game.blocks)) l.claim-iterator ≡ map (period_row (blocks_in l.game.blocks)) (sets.listed l.game.claims);
  game : AreOfGame l.game.code l.claim-iterator;
}
