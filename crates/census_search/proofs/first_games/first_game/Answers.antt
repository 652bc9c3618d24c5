use Rattle.std.proofs.Common.{ap, ◌∙◌}
use Rattle.oct_period.specs.Found.{found_period}
use Rattle.oct_verify.specs.Filing.{Filings, blocks_in}
use Rattle.oct_verify.specs.Known.{known}
use Rattle.census_search.specs.FirstGames.{listed_if}
use Rattle.census_search.proofs.FirstGames.{claims_of}
use Rattle.census_search.proofs.first_games.first_game.Goals as goal

pub returns : goal.returns
returns g c =
    let game = c.in_ok-game.game in
    let known_to = c.in_ok-game.ensures.known in
    record {
      code = c.claim_period.ensures.code ∙ known_to.code;
      length = ap (λ (b : Filings). known (blocks_in b)) c.claim_period.ensures.blocks ∙ known_to.length;
      claims = c.in_ok-claim_period.ensures.claims ∙ (λ i. listed_if (found_period (known_to.code i) (blocks_in game.blocks))) ∙ claims_of c.args.code c.args.count (blocks_in game.blocks) c.requires.some known_to.length;
    }
