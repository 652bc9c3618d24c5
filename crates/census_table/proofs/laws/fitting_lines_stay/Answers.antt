use Rattle.census_table.proofs.Staying.{fitting_stay}
use Rattle.census_table.proofs.laws.fitting_lines_stay.Goals as goal

pub returns : goal.returns
returns c = fitting_stay
