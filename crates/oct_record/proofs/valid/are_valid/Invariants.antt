use Rattle.std.proofs.Common.{◌≡◌, true, ◌⊎◌}
use Rattle.std.specs.List.{list_any}
use Rattle.std.specs.Ordering.{eq_by_cmp}
use Rattle.oct_ops.specs.Body.{Operation}
use Rattle.oct_ops.specs.Operations.{contains}
use Rattle.oct_ops.specs.Order.{op_cmp}
use Rattle.oct_ops.specs.Valid.{IsOp}
use Rattle.oct_record.proofs.valid.are_valid.Given as goal

-- each operation is still to come, or is valid
abbrev pub invariant-loop-op : goal.invariant-loop-op
invariant-loop-op g l = (o : Operation) → contains l.store o ≡ true → (list_any (eq_by_cmp op_cmp o) l.op-iterator ≡ true) ⊎ IsOp o
