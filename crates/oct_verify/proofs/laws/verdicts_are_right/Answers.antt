use Rattle.oct_verify.proofs.Verdicts.{proved-is_right, refuted-is_least}
use Rattle.oct_verify.proofs.laws.verdicts_are_right.Goals as goal

pub returns : goal.returns
returns c = record { proved = proved-is_right; refuted = refuted-is_least }
