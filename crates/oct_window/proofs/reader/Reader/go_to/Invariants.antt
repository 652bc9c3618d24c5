use Rattle.std.proofs.Common.{◌≡◌, ◌≤◌, max, vec_len, IfSome}
use Rattle.oct_code.specs.Code as octal
use Rattle.oct_window.specs.BySets.{AreRight, AreSetsOf}
use Rattle.oct_window.specs.Comparisons.{IsInStep, IsRight}
use Rattle.oct_window.specs.Windows.{IsSameGame}
use Rattle.oct_window.proofs.reader.Reader.go_to.Given as goal

abbrev pub invariant-loop : goal.invariant-loop
invariant-loop g l = record {
  step : IsInStep (vec_len l.row.values) l.self;
  same : IsSameGame l.initial.self.window l.self.window;
  heap : l.self.heap ≡ l.counter;
  more : l.initial.self.heap ≤ l.counter;
  most : l.counter ≤ max l.end l.initial.self.heap;
  of : IfSome l.sets (AreSetsOf l.self.window);
  right : (c : octal.Code) → IsRight c l.initial.self → IsRight c l.self;
  sets : (c : octal.Code) → IsRight c l.initial.self → IfSome l.sets (AreRight l.self.window);
}
