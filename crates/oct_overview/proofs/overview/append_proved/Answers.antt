use Rattle.std.proofs.Common.{[], ◌++◌, ◌∙◌}
use Rattle.std.proofs.lemmas.Result.{on_ok_weaker}
use Rattle.std.specs.Fmt.{decimal}
use Rattle.oct_overview.proofs.overview.append_proved.Goals as goal

pub returns-clause-ok : goal.returns-clause-ok
returns-clause-ok g c =
    on_ok_weaker c.append_pieces.result
    (λ e. e ∙ (λ i. c.args.out.now.items ++ (c.args.front.now ++ (decimal c.args.tally.proved ++ (c.word.ensures i ++ (decimal c.args.tally.refuted ++ []))))))
    c.append_pieces.ensures.ok
