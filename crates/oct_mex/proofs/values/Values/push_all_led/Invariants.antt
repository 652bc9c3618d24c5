use Rattle.std.proofs.Common.{◌≡◌, ◌≤◌, max, min}
use Rattle.oct_mex.specs.Following.{Follows}
use Rattle.oct_mex.proofs.values.Values.push_all_led.Given as goal

abbrev pub invariant-loop : goal.invariant-loop
invariant-loop g l = record {
  is : l.self ≡ record l.initial.self { len = l.counter };
  more : l.initial.self.len ≤ l.counter;
  most : l.counter ≤ max (min l.count l.leader.len) l.initial.self.len;
  follows : Follows l.initial.self.code l.leader.code l.counter;
}
