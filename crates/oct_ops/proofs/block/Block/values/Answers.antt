use Rattle.oct_ops.proofs.block.Block.values.Goals as goal

pub returns-clause-value : goal.returns-clause-value
returns-clause-value g c = cc
