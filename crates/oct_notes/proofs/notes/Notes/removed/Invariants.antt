use Rattle.std.proofs.Common.{◌≡◌, ◌||◌}
use Rattle.std.specs.List.{list_any}
use Rattle.std.specs.Ordering.{eq_by_cmp}
use Rattle.oct_ops.specs.DotOrder.{dot_cmp}
use Rattle.oct_ops.specs.Operation.{Dot}
use Rattle.oct_ops.specs.Operations.{listed}
use Rattle.oct_notes.specs.Notes.{is_removed}
use Rattle.oct_notes.proofs.notes.Notes.removed.Given as goal

abbrev pub invariant-loop-op : goal.invariant-loop-op
invariant-loop-op g l = (d : Dot) → (list_any (eq_by_cmp dot_cmp d) l.dots.items || is_removed l.op-iterator d) ≡ is_removed (listed l.self) d
