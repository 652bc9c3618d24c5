use Rattle.std.proofs.Common.{◌≡◌, ◌+◌, ◌≤◌, max, vec_len, IfSome}
use Rattle.oct_code.specs.Code as octal
use Rattle.oct_mex.specs.Row.{IsRow}
use Rattle.oct_window.specs.BySets.{AreRight, AreSetsOf}
use Rattle.oct_window.specs.Comparisons.{IsCompared, IsPaired}
use Rattle.oct_window.proofs.comparison.Comparison.compare.Given as goal

abbrev pub invariant-loop : goal.invariant-loop
invariant-loop g l = record {
  paired : IsPaired (vec_len l.row.values) l.self;
  ahead : l.self.second.heap ≡ l.self.first.heap + l.self.period;
  heap : l.self.first.heap ≡ l.counter;
  more : l.initial.self.first.heap ≤ l.counter;
  most : l.counter ≤ max l.end l.initial.self.first.heap;
  of : IfSome l.sets (AreSetsOf l.self.first.window);
  of_later : IfSome l.later (AreSetsOf l.self.second.window);
  right : (c : octal.Code) → IsRow (λ x. x) c l.row → IsCompared c l.initial.self → IfSome l.sets (AreRight l.self.first.window);
  right_later : (c : octal.Code) → IsRow (λ x. x) c l.row → IsCompared c l.initial.self → IfSome l.later (AreRight l.self.second.window);
  period : l.self.period ≡ l.initial.self.period;
  compared : (c : octal.Code) → IsRow (λ x. x) c l.row → IsCompared c l.initial.self → IsCompared c l.self;
}
