use Rattle.oct_period.proofs.Statuses as statuses
use Rattle.oct_period.proofs.laws.settled_claims_stay.Goals as goal

pub returns : goal.returns
returns c = statuses.settled_claims_stay
