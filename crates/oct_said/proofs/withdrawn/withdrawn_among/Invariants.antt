use Rattle.std.proofs.Common.{◌≡◌, map, take}
use Rattle.oct_said.specs.Dots.{withdrawn_dots}
use Rattle.oct_said.proofs.withdrawn.withdrawn_among.Given as goal

abbrev pub invariant-loop-op : goal.invariant-loop-op
invariant-loop-op g l = l.found.items ≡ withdrawn_dots (map (λ op. op.now) (take l.op-index l.notes))
