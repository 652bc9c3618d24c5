use Rattle.std.proofs.Common.{◌≤◌}
use Rattle.oct_search.proofs.seldom.Seldom.last_gaps.Given as goal

abbrev pub invariant-loop-first : goal.invariant-loop-first
invariant-loop-first g l = record {
  within : l.first ≤ l.len;
}

abbrev pub decreases-loop-first : goal.decreases-loop-first
decreases-loop-first g l = l.first
