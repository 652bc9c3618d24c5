use Rattle.std.proofs.lemmas.Result.{on_ok_weaker}
use Rattle.oct_ops.proofs.Growing.{grown_four_times}
use Rattle.oct_pages.proofs.blocks.GameHeadLine.append.Goals as goal

pub returns-clause-ok : goal.returns-clause-ok
returns-clause-ok g c =
    on_ok_weaker c.append_text-3.result (λ last.
    grown_four_times _ _ _ _ _ _ _ _ _ c.in_ok-append_text.ensures.ok c.in_ok-append_text-2.ensures.ok c.in_ok-append_labelled.ensures.ok last) c.append_text-3.ensures.ok
