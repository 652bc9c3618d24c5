use Rattle.std.proofs.Common.{arith, ap, sym, subst, ◌∙◌}
use Rattle.oct_period.specs.GameContent.{GameContent}
use Rattle.oct_verify.specs.Filing.{GameBlocks, blocks_in}
use Rattle.oct_verify.specs.Known.{known}
use Rattle.census_search.specs.FirstGames.{EndsAtKnown}
use Rattle.census_search.proofs.FirstGames.{none_ends, none_known}
use Rattle.census_search.proofs.first_games.known_game.Goals as goal

pub blocks-2-init : goal.blocks-2-init
blocks-2-init g c =
    let new = c.new-game.ensures in
    record {
      code = ap (λ (h : GameContent). h.code) new;
      few = omega (arith, ap (λ (h : GameContent). known (blocks_in h.blocks)) new ∙ none_known, c.requires.some);
      end = subst EndsAtKnown (sym (ap (λ (h : GameContent). blocks_in h.blocks) new)) none_ends;
      claims = ap (λ (h : GameContent). h.claims) new;
    }

pub blocks-2-preserved : goal.blocks-2-preserved
blocks-2-preserved g c =
    let held = c.blocks-2.invariant in
    let next = c.in_ok-add_block.ensures.ok in
    record {
      code = next.code ∙ held.code;
      few = omega (arith, next.length);
      end = next.end;
      claims = c.add_block.ensures.claims ∙ held.claims;
    }

pub returns-clause-known : goal.returns-clause-known
returns-clause-known g c =
    let held = c.blocks-2.invariant in
    let size = c.known.ensures.value ∙ ap (λ (l : GameBlocks). known (blocks_in l.blocks)) c.ledger.ensures in
    record {
      code = held.code;
      length = omega (arith, held.few, size, c.blocks-2-test.false);
      end = held.end;
    }

pub returns-clause-claims : goal.returns-clause-claims
returns-clause-claims g c = c.blocks-2.invariant.claims
