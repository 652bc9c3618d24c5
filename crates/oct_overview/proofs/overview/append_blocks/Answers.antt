use Rattle.std.proofs.Common.{◌++◌, ◌∙◌}
use Rattle.std.proofs.lemmas.Result.{on_ok_weaker}
use Rattle.oct_overview.specs.Overview.{tally_words}
use Rattle.oct_overview.proofs.overview.append_blocks.Goals as goal

pub returns-clause-ok : goal.returns-clause-ok
returns-clause-ok g c = on_ok_weaker c.append_tally.result (λ e. e ∙ (λ i. c.args.out.now.items ++ tally_words c.args.form (c.word-front.ensures i) c.args.tally)) c.append_tally.ensures.ok
