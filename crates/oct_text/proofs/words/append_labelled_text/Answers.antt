use Rattle.std.proofs.lemmas.Result.{on_ok_weaker}
use Rattle.oct_ops.proofs.Growing.{grown_twice}
use Rattle.oct_text.proofs.words.append_labelled_text.Goals as goal

pub returns-clause-ok : goal.returns-clause-ok
returns-clause-ok g c =
    on_ok_weaker c.append_text-2.result (λ last. grown_twice _ _ _ _ _ c.in_ok-append_text.ensures.ok last) c.append_text-2.ensures.ok
