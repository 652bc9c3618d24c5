use Rattle.oct_mex.proofs.Moves.{moves_are_listed}
use Rattle.oct_mex.proofs.laws.moves_are_listed.Goals as goal

pub returns : goal.returns
returns c = moves_are_listed
