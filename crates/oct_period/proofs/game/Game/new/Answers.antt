use Rattle.std.proofs.Common.{List, sym, ap, ◌∙◌}
use Rattle.oct_ops.specs.Sets as sets
use Rattle.oct_ops.specs.SetLaws.{contains-empty}
use Rattle.oct_verify.specs.Filing.{GameBlocks, filing_cmp}
use Rattle.oct_verify.specs.FilingLaws.{filing_cmp_total, filing_cmp_exact}
use Rattle.oct_period.specs.Claims.{Claim, claim_cmp}
use Rattle.oct_period.specs.ClaimLaws.{claim_cmp_total, claim_cmp_exact}
use Rattle.oct_period.proofs.game.Game.new.Goals as goal

pub invariant_of-result : goal.invariant_of-result
invariant_of-result g c = record {
  sorted = c.new-2.ensures.ordered;
  blocks = λ f here. cc (sym here ∙ ap (λ (game : GameBlocks). sets.contains {R = filing_cmp} game.blocks f) c.new.ensures ∙ contains-empty filing_cmp_total filing_cmp_exact f);
  claims = λ d here. cc (sym here ∙ ap (λ (keys : List Claim). sets.contains (sets.set_of {R = claim_cmp} keys) d) c.new-2.ensures.empty ∙ contains-empty claim_cmp_total claim_cmp_exact d);
}
