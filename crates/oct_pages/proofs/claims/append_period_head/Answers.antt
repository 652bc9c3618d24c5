use Rattle.std.proofs.Common.{◌++◌, ◌∙◌}
use Rattle.std.specs.Prelude.{codes}
use Rattle.std.proofs.lemmas.Result.{on_ok_weaker}
use Rattle.oct_pages.specs.Catalogue.{dot_text, labelled}
use Rattle.oct_ops.proofs.Growing.{grown_thrice}
use Rattle.oct_pages.proofs.claims.append_period_head.Goals as goal

pub returns-clause-ok : goal.returns-clause-ok
returns-clause-ok g c =
    on_ok_weaker c.append_labelled-2.result (λ last.
    grown_thrice c.args.out.now.items _ _ _ _ _ _ c.in_ok-append_labelled_dot.ensures.ok c.in_ok-append_labelled.ensures.ok last
    ∙ (λ i. c.args.out.now.items ++ (codes "period " ++ dot_text c.args.dot ++ labelled (codes " from ") (c.start.ensures.value i) ++ labelled (codes " by ") (c.period.ensures.value i)))) c.append_labelled-2.ensures.ok
