use Rattle.std.proofs.lemmas.Result.{on_ok_weaker}
use Rattle.oct_ops.proofs.Growing.{grown_thrice}
use Rattle.oct_pages.proofs.values.append_row.Goals as goal

pub returns-clause-ok : goal.returns-clause-ok
returns-clause-ok g c =
    on_ok_weaker c.append_text.result (λ last. grown_thrice _ _ _ _ _ _ _ c.in_ok-append_labelled.ensures.ok c.in_ok-append_each_value.ensures.ok last) c.append_text.ensures.ok
