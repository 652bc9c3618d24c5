use Rattle.std.proofs.Common.{◌≡◌, ◌++◌, map}
use Rattle.std.specs.List.{filter}
use Rattle.oct_ops.specs.Operations.{listed}
use Rattle.oct_notes.proofs.Lives.{shows}
use Rattle.oct_notes.proofs.notes.Notes.live_dots.Given as goal

abbrev pub invariant-loop-op : goal.invariant-loop-op
invariant-loop-op g l =
    l.dots.items ++ map (λ o. o.dot) (filter (shows l.removed-inside.dots.items l.name) l.op-iterator)
    ≡ map (λ o. o.dot) (filter (shows l.removed-inside.dots.items l.name) (listed l.self))
