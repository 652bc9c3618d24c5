use Rattle.std.proofs.Common.{◌≡◌, not}
use Rattle.std.specs.List.{list_any}
use Rattle.oct_ops.specs.Operations.{contains, listed}
use Rattle.census_judge.proofs.verdicts.has_new.Given as goal

-- one of those that are left is new where one of all is
abbrev pub invariant-loop-op : goal.invariant-loop-op
invariant-loop-op l = list_any (λ o. not (contains l.before.ops o)) l.op-iterator ≡ list_any (λ o. not (contains l.before.ops o)) (listed l.ops)
