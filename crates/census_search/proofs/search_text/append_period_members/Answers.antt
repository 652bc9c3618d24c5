use Rattle.std.proofs.Common.{◌++◌, ap, codes, ◌∙◌}
use Rattle.std.proofs.lemmas.Result.{on_ok_weaker}
use Rattle.oct_ops.proofs.Growing.{grown_thrice}
use Rattle.oct_text.specs.Words.{labelled}
use Rattle.census_search.proofs.search_text.append_period_members.Goals as goal

pub returns : goal.returns
returns c =
    on_ok_weaker c.append_labelled-3.result
    (λ last. grown_thrice _ _ _ _ _ _ _ c.in_ok-append_labelled.ensures.ok c.in_ok-append_labelled-2.ensures.ok
    (last ∙ ap (λ n. c.append_labelled-2.new.out.items ++ labelled (codes ",\"needs\":") n) c.needs.ensures)) c.append_labelled-3.ensures.ok
