use Rattle.std.proofs.Common.{◌≡◌, map, take}
use Rattle.oct_notes.proofs.notes.Notes.live.Given as goal

abbrev pub invariant-loop-op : goal.invariant-loop-op
invariant-loop-op g l = l.live.items ≡ map (λ r. r.now) (take l.op-index l.op-items)
