use Rattle.oct_mex.proofs.Windows.{settled_runs_hold}
use Rattle.oct_mex.proofs.laws.settled_runs_hold.Goals as goal

pub returns : goal.returns
returns c = settled_runs_hold
