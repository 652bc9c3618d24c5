use Rattle.std.proofs.lemmas.Result.{on_ok_weaker}
use Rattle.oct_ops.proofs.Growing.{grown_thrice}
use Rattle.oct_pages.proofs.blocks.append_block_head.Goals as goal

pub returns-clause-ok : goal.returns-clause-ok
returns-clause-ok g c =
    on_ok_weaker c.append_labelled-2.result (λ last. grown_thrice _ _ _ _ _ _ _ c.in_ok-append_labelled_dot.ensures.ok c.in_ok-append_labelled.ensures.ok last) c.append_labelled-2.ensures.ok
