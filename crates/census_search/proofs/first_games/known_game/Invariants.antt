use Rattle.std.proofs.Common.{◌≡◌, ◌-◌, ◌≤◌}
use Rattle.oct_ops.specs.Sets as sets
use Rattle.oct_verify.specs.Filing.{blocks_in}
use Rattle.oct_verify.specs.Known.{known}
use Rattle.census_search.specs.FirstGames.{EndsAtKnown}
use Rattle.census_search.proofs.first_games.known_game.Given as goal

abbrev pub invariant-blocks-2 : goal.invariant-blocks-2
invariant-blocks-2 g l = record {
  code : l.game.code ≡ l.fn.code;
  few : known (blocks_in l.game.blocks) ≤ l.count;
  end : EndsAtKnown (blocks_in l.game.blocks);
  claims : l.game.claims ≡ sets.empty;
}

abbrev pub decreases-blocks-2 : goal.decreases-blocks-2
decreases-blocks-2 g l = l.count - known (blocks_in l.game.blocks)
