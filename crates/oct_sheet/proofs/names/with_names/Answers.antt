use Rattle.std.proofs.Common.{arith, ◌∙◌}
use Rattle.std.proofs.lemmas.Grind.{common_steps}
use Rattle.oct_sheet.proofs.names.with_names.Goals as goal

pub loop-author-preserved : goal.loop-author-preserved
loop-author-preserved g c = grind (arith, common_steps, c.name_in.ensures ∙ c.in_ok-names.ensures.names _)
