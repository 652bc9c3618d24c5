use Rattle.oct_ops.proofs.op.Op.dot.Goals as goal

pub returns-clause-value : goal.returns-clause-value
returns-clause-value g c = cc
