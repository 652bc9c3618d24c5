use Rattle.oct_notes.proofs.Unremoved.{all_stay}
use Rattle.oct_notes.proofs.laws.removals_of_nothing_change_nothing.Goals as goal

pub returns : goal.returns
returns c = all_stay
