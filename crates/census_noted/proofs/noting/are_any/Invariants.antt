use Rattle.std.proofs.Common.{◌≡◌, false, map, take}
use Rattle.std.specs.List.{list_any}
use Rattle.census_noted.specs.Noting.{says}
use Rattle.census_noted.proofs.noting.are_any.Given as goal

abbrev pub invariant-loop-op : goal.invariant-loop-op
invariant-loop-op g l = list_any (says l.name l.text) (map (λ op. op.now) (take l.op-index l.live)) ≡ false
