use Rattle.oct_verify.proofs.KnownLaws.{settled_stays}
use Rattle.oct_verify.proofs.laws.settled_stays.Goals as goal

pub returns : goal.returns
returns c = settled_stays
