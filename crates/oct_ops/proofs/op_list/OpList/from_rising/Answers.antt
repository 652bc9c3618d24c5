use Rattle.std.proofs.Common.{◌≡◌, false, refl, subst, sym}
use Rattle.oct_ops.specs.Operations.{IsRising}
use Rattle.oct_ops.specs.Order.{op_cmp}
use Rattle.oct_ops.specs.Sets.{rises}
use Rattle.oct_ops.proofs.op_list.OpList.from_rising.Goals as goal

pub returns-then-not-rises-clause-refused : goal.returns-then-not-rises-clause-refused
returns-then-not-rises-clause-refused g c = subst (λ ops. rises op_cmp ops ≡ false) c.deref.ensures.value (sym c.if-not-rises.ensures)

pub invariant_of-result : goal.invariant_of-result
invariant_of-result g c = subst IsRising c.deref.ensures.value (sym c.if-not-rises.ensures)

pub returns-clause-ok : goal.returns-clause-ok
returns-clause-ok g c = refl

pub returns-clause-accepted : goal.returns-clause-accepted
returns-clause-accepted g c = subst IsRising c.deref.ensures.value (sym c.if-not-rises.ensures)

pub returns-clause-refused : goal.returns-clause-refused
returns-clause-refused g c = tt

pub returns-clause-back : goal.returns-clause-back
returns-clause-back g c = tt
