use Rattle.oct_period.proofs.FarLaws as far
use Rattle.oct_period.proofs.laws.settled_blocks_stay.Goals as goal

pub returns : goal.returns
returns c = far.settled_blocks_stay
