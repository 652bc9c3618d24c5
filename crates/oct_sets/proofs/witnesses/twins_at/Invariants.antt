use Rattle.std.proofs.Common.{◌-◌, ◌≤◌}
use Rattle.oct_sets.proofs.witnesses.twins_at.Given as goal

abbrev pub invariant-loop-heap : goal.invariant-loop-heap
invariant-loop-heap g l = record { most : l.heap ≤ 4097 }

abbrev pub decreases-loop-heap : goal.decreases-loop-heap
decreases-loop-heap g l = 4097 - l.heap
