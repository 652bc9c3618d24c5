use Rattle.oct_ops.proofs.op.Op.new.Goals as goal

pub returns : goal.returns
returns g c = cc
