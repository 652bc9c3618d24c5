use Rattle.std.proofs.Common.{◌≡◌}
use Rattle.std.specs.List.{fold}
use Rattle.oct_ops.specs.Body.{Operation}
use Rattle.oct_ops.specs.Operation.{Dot}
use Rattle.oct_ops.specs.Operations.{contains, listed}
use Rattle.oct_log.specs.Twice.{seen, sides_in, sides_of}
use Rattle.oct_log.proofs.twice.sides_by_dot.Given as goal

abbrev pub invariant-loop-op : goal.invariant-loop-op
invariant-loop-op g l =
    (d : Dot) → fold (λ sides (o : Operation). seen d sides (contains l.fn.one o) (contains l.fn.other o) o.dot) (sides_in l.table d) l.op-iterator
    ≡ sides_of l.fn.one l.fn.other (listed l.fn.all) d
