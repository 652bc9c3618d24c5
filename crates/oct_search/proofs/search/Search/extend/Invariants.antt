use Rattle.std.proofs.Common.{◌≡◌, ◌-◌, ◌≤◌, max}
use Rattle.oct_search.proofs.search.Search.extend.Given as goal

abbrev pub invariant-loop-self : goal.invariant-loop-self
invariant-loop-self g l = record {
  code : l.self.code ≡ l.initial.self.code;
  more : l.initial.self.len ≤ l.self.len;
  most : l.self.len ≤ max l.count l.initial.self.len;
}

abbrev pub decreases-loop-self : goal.decreases-loop-self
decreases-loop-self g l = l.count - l.self.len
