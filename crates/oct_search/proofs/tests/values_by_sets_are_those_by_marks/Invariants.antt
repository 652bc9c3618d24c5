use Rattle.std.proofs.Common.{◌-◌, ◌≤◌, IfSome}
use Rattle.oct_search.specs.BySets.{AreSetsOf}
use Rattle.oct_search.specs.Cells.{IsKnown, len_of}
use Rattle.oct_search.proofs.tests.values_by_sets_are_those_by_marks.Given as goal

abbrev pub invariant-loop-cells : goal.invariant-loop-cells
invariant-loop-cells g l = record {
  known : IsKnown l.code l.cells;
  few : len_of l.cells ≤ 65536;
  sets : IfSome l.finder.sets (AreSetsOf l.code (len_of l.cells));
}

abbrev pub decreases-loop-cells : goal.decreases-loop-cells
decreases-loop-cells g l = 65536 - len_of l.cells
