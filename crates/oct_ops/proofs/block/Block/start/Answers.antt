use Rattle.oct_ops.proofs.block.Block.start.Goals as goal

pub returns-clause-value : goal.returns-clause-value
returns-clause-value g c = cc
