use Rattle.census_table.proofs.Staying.{fronts_stay}
use Rattle.census_table.proofs.laws.fronts_stay.Goals as goal

pub returns : goal.returns
returns c = fronts_stay
