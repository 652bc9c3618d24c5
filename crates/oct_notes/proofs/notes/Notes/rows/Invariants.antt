use Rattle.std.proofs.Common.{◌≡◌, ◌++◌}
use Rattle.std.specs.List.{filter}
use Rattle.oct_ops.specs.Operations.{listed}
use Rattle.oct_notes.specs.Notes.{leaves}
use Rattle.oct_notes.proofs.notes.Notes.rows.Given as goal

abbrev pub invariant-loop-op : goal.invariant-loop-op
invariant-loop-op g l = l.rows.items ++ filter (leaves l.removed-inside.dots.items) l.op-iterator ≡ filter (leaves l.removed-inside.dots.items) (listed l.self)
