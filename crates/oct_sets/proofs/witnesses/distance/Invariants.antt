use Rattle.std.proofs.Common.{◌≤◌}
use Rattle.oct_sets.proofs.witnesses.distance.Given as goal

abbrev pub invariant-loop-apart : goal.invariant-loop-apart
invariant-loop-apart g l = record { most : l.distance ≤ 64 }
