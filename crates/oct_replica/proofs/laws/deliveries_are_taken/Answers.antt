use Rattle.oct_replica.proofs.Deliveries.{deliveries_are_taken}
use Rattle.oct_replica.proofs.laws.deliveries_are_taken.Goals as goal

pub returns : goal.returns
returns c = deliveries_are_taken
