use Rattle.std.proofs.Common.{◌≡◌, true, sym, ap, ◌∙◌, subst}
use Rattle.oct_ops.specs.Views.{content}
use Rattle.oct_ops.specs.Sets.{contains}
use Rattle.census_judge.proofs.Judging.{held_block, its_claim}
use Rattle.census_judge.proofs.verdicts.verdict_of.Goals as goal

pub block_status_by-requires : goal.block_status_by-requires
block_status_by-requires c =
    let game = c.args.game.now in
    let op = c.args.op.now in
    record {
      here = subst (λ d. contains game.blocks (d, c.in-Block.block) ≡ true) (sym c.dot.ensures.value)
          (held_block game op.dot op.body c.in-Block.block (sym (ap content (sym c.in-Block.is) ∙ c.body.ensures.value)) c.requires.of_game c.requires.here);
      first = c.requires.first;
    }

pub claim_verdict-requires : goal.claim_verdict-requires
claim_verdict-requires c = its_claim c.args.game.now.code c.args.op.now.body c.in-Period.claim (sym (ap content (sym c.in-Period.is) ∙ c.body.ensures.value)) c.requires.of_game
