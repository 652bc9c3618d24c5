use Rattle.std.proofs.Common.{sym, ap, ◌∙◌}
use Rattle.oct_ops.specs.Views.{content}
use Rattle.census_judge.proofs.Judging.{its_claim}
use Rattle.census_judge.proofs.decisions.is_open.Goals as goal

pub claim_verdict-requires : goal.claim_verdict-requires
claim_verdict-requires c = its_claim c.args.game.now.code c.args.op.now.body c.in-Period.claim (sym (ap content (sym c.in-Period.is) ∙ c.body.ensures.value)) c.requires.of_game
