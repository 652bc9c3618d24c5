use Rattle.census_noted.proofs.So.{what_is_so_holds}
use Rattle.census_noted.proofs.laws.what_is_so_holds.Goals as goal

pub returns : goal.returns
returns c = what_is_so_holds
