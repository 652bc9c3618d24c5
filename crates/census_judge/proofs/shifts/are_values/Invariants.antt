use Rattle.std.proofs.Common.{◌≡◌, ◌+◌, drop}
use Rattle.census_judge.specs.Shifts.{are_values}
use Rattle.census_judge.proofs.shifts.are_values.Given as goal

abbrev pub invariant-loop-index : goal.invariant-loop-index
invariant-loop-index l = are_values l.values.code (l.heap + l.index) (drop l.index l.claimed) ≡ are_values l.values.code l.heap l.claimed
