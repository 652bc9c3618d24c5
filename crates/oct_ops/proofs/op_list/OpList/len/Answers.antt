use Rattle.oct_ops.proofs.op_list.OpList.len.Goals as goal

pub returns : goal.returns
returns g c = cc
