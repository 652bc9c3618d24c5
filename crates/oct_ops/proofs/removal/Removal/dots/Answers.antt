use Rattle.oct_ops.proofs.removal.Removal.dots.Goals as goal

pub returns-clause-value : goal.returns-clause-value
returns-clause-value g c = cc
