use Rattle.std.proofs.lemmas.Result.{on_ok_weaker}
use Rattle.oct_ops.proofs.Growing.{grown_twice}
use Rattle.page.proofs.checking.append_correction.Goals as goal

pub returns : goal.returns
returns g c = on_ok_weaker c.append_text.result (λ last. grown_twice _ _ _ _ _ c.in_ok-append_labelled.ensures.ok last) c.append_text.ensures.ok
