use Rattle.census_noted.proofs.So.{what_is_so_is_least}
use Rattle.census_noted.proofs.laws.what_is_so_is_least.Goals as goal

pub returns : goal.returns
returns c = what_is_so_is_least c.shown_periods_are_least.ensures
