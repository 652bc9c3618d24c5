use Rattle.std.proofs.Common.{sym, ap}
use Rattle.census_tell.specs.Asking.{outcome_line}
use Rattle.page.proofs.playing.outcome_line.Goals as goal

pub returns-in-NextWins : goal.returns-in-NextWins
returns-in-NextWins c = sym (ap outcome_line c.in-NextWins.is)
