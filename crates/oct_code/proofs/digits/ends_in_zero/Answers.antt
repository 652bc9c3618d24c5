use Rattle.oct_code.proofs.digits.ends_in_zero.Goals as goal

pub returns : goal.returns
returns c = cc
