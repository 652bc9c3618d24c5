use Rattle.std.proofs.lemmas.Result.{on_ok_weaker}
use Rattle.oct_ops.proofs.Growing.{grown_thrice}
use Rattle.oct_pages.proofs.blocks.append_refutation.Goals as goal

pub returns-clause-ok : goal.returns-clause-ok
returns-clause-ok g c =
    on_ok_weaker c.append_labelled-3.result (λ last. grown_thrice _ _ _ _ _ _ _ c.in_ok-append_labelled.ensures.ok c.in_ok-append_labelled-2.ensures.ok last) c.append_labelled-3.ensures.ok
