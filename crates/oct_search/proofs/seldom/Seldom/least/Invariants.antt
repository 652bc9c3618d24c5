use Rattle.std.proofs.Common.{◌≤◌, vec_len}
use Rattle.oct_search.proofs.seldom.Seldom.least.Given as goal

abbrev pub invariant-loop-at : goal.invariant-loop-at
invariant-loop-at g l = record {
  held : l.end ≤ vec_len l.self.places;
}

abbrev pub decreases-loop-at : goal.decreases-loop-at
decreases-loop-at g l = l.end
