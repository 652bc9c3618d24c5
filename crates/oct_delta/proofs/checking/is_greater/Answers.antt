use Rattle.oct_delta.proofs.checking.is_greater.Goals as goal

pub returns : goal.returns
returns c = cc
