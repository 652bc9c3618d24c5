use Rattle.std.proofs.Common.{◌≡◌, map, take}
use Rattle.std.specs.List.{filter_map}
use Rattle.oct_said.specs.Noting.{period_note_of}
use Rattle.oct_said.proofs.noting.period_notes_among.Given as goal

abbrev pub invariant-loop-op : goal.invariant-loop-op
invariant-loop-op g l = l.found.items ≡ filter_map period_note_of (map (λ op. op.now) (take l.op-index l.notes))
