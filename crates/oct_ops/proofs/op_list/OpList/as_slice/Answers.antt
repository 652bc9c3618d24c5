use Rattle.std.proofs.Common.{subst, ◌∙◌}
use Rattle.oct_ops.specs.Operations.{IsRising}
use Rattle.oct_ops.proofs.op_list.OpList.as_slice.Goals as goal

pub returns-clause-value : goal.returns-clause-value
returns-clause-value g c = c.deref.ensures.value ∙ c.self.view_is

pub returns-clause-valid : goal.returns-clause-valid
returns-clause-valid g c = subst IsRising c.self.view_is c.self.invariant
