use Rattle.std.proofs.Common.{length, ◌+◌, ◌-◌, ◌≤◌}
use Rattle.oct_sets.proofs.witnesses.Known.worth.Given as goal

abbrev pub invariant-loop-at : goal.invariant-loop-at
invariant-loop-at g l = record { some : 1 ≤ l.step; few : l.step ≤ length l.lacking + 1 }

abbrev pub decreases-loop-at : goal.decreases-loop-at
decreases-loop-at g l = length l.lacking - l.at
