use Rattle.std.proofs.Common.{◌≡◌, ◌≤◌, max}
use Rattle.oct_mex.proofs.values.Values.follow.Given as goal

abbrev pub invariant-loop-leader : goal.invariant-loop-leader
invariant-loop-leader g l = record {
  is : l.self ≡ record l.initial.self { len = l.self.len };
  more : l.initial.self.len ≤ l.self.len;
  most : l.self.len ≤ max l.count l.initial.self.len;
}
