use Rattle.std.proofs.Common.{◌≤◌, length}
use Rattle.oct_search.proofs.seldom.last_of.Given as goal

abbrev pub invariant-loop-end : goal.invariant-loop-end
invariant-loop-end l = record {
  held : l.end ≤ length l.numbers;
  few : l.end ≤ l.count;
}

abbrev pub decreases-loop-end : goal.decreases-loop-end
decreases-loop-end l = l.end
