use Rattle.oct_period.proofs.Statuses as statuses
use Rattle.oct_period.proofs.laws.statuses_are_right.Goals as goal

pub returns : goal.returns
returns c = record { proved = statuses.proved_holds; refuted = statuses.refuted_is_first_break }
