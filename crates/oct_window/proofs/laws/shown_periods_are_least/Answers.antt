use Rattle.oct_window.proofs.Shown.{shown_periods_are_least}
use Rattle.oct_window.proofs.laws.shown_periods_are_least.Goals as goal

pub returns : goal.returns
returns c = shown_periods_are_least
