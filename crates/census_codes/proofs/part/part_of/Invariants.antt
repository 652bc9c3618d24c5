use Rattle.std.proofs.Common.{◌≡◌, ◌-◌, ◌++◌, drop}
use Rattle.census_codes.specs.Parts.{each_nth}
use Rattle.census_codes.proofs.part.part_of.Given as goal

abbrev pub invariant-loop-item : goal.invariant-loop-item
invariant-loop-item g l = l.items.items ++ each_nth l.fn.part.of l.before (drop l.item-index l.list) ≡ each_nth l.fn.part.of (l.fn.part.number - 1) l.list
