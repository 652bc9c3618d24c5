use Rattle.oct_window.proofs.Marking.{marked_periods_are_seen}
use Rattle.oct_window.proofs.laws.marked_periods_are_seen.Goals as goal

pub returns : goal.returns
returns c = marked_periods_are_seen
