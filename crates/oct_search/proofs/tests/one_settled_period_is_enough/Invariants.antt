use Rattle.std.proofs.Common.{◌≤◌, IfSome}
use Rattle.oct_search.specs.BySets.{AreSetsOf}
use Rattle.oct_search.specs.Cells.{IsKnown, len_of}
use Rattle.oct_search.proofs.tests.one_settled_period_is_enough.Given as goal

abbrev pub invariant-loop : goal.invariant-loop
invariant-loop g l = record {
  known : IsKnown l.code l.cells;
  few : len_of l.cells ≤ l.counter;
  sets : IfSome l.finder.sets (AreSetsOf l.code (len_of l.cells));
}
