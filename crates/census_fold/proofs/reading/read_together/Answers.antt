use Rattle.std.proofs.lemmas.Result.{on_ok_weaker}
use Rattle.oct_ops.specs.Operations.{listed}
use Rattle.oct_pages.specs.Catalogue.{catalogue}
use Rattle.census_state.proofs.Stepping.{then_with}
use Rattle.census_fold.proofs.reading.read_together.Goals as goal

pub returns-clause-ok : goal.returns-clause-ok
returns-clause-ok g c =
    on_ok_weaker c.write_held.result (λ wrote. (catalogue (listed c.in_ok-all.all), then_with _ _ _ c.in_ok-all.ensures.ok, wrote)) c.write_held.ensures.ok
