use Rattle.std.proofs.Common.{◌++◌, ap, codes, ◌∙◌}
use Rattle.std.proofs.lemmas.Result.{on_ok_weaker}
use Rattle.oct_ops.proofs.Growing.{grown_thrice}
use Rattle.oct_text.specs.Words.{labelled}
use Rattle.census_issue.proofs.found_object.append_seen_members.Goals as goal

pub returns : goal.returns
returns c =
    on_ok_weaker c.append_labelled-3.result
    (λ last. grown_thrice _ _ _ _ _ _ _
    (c.in_ok-append_labelled.ensures.ok ∙ ap (λ n. c.args.text.now.items ++ labelled (codes "\",\"period\":") n) c.period.ensures.value)
    (c.in_ok-append_labelled-2.ensures.ok ∙ ap (λ n. c.append_labelled.new.out.items ++ labelled (codes ",\"from\":") n) c.start.ensures.value)
    (last ∙ ap (λ n. c.append_labelled-2.new.out.items ++ labelled (codes ",\"needs\":") n) c.needs.ensures)) c.append_labelled-3.ensures.ok
