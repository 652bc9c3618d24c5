use Rattle.oct_join.proofs.Merging.{from_nothing}
use Rattle.oct_join.proofs.clock.Clock.new.Goals as goal

pub returns : goal.returns
returns g c = from_nothing _ assumption
