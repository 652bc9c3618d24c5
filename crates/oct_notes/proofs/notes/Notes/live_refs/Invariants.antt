use Rattle.std.proofs.Common.{◌≡◌, map, take}
use Rattle.oct_notes.proofs.notes.Notes.live_refs.Given as goal

abbrev pub invariant-loop-row : goal.invariant-loop-row
invariant-loop-row g l = map (λ r. r.now) l.live.items ≡ take l.row-index l.row-items
