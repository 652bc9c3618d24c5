use Rattle.std.proofs.Common.{IfSome, arith, sym, subst}
use Rattle.oct_search.specs.BySets.{AreSetsOf}
use Rattle.oct_search.specs.Cells.{len_of}
use Rattle.oct_search.proofs.tests.values_by_sets_are_those_by_marks.Goals as goal

pub loop-cells-init : goal.loop-cells-init
loop-cells-init g c = record {
  known = c.new-cells.ensures.known c.expect-code.result;
  few = omega (arith, c.new-cells.ensures.len);
  sets = subst (λ s. IfSome s (AreSetsOf c.expect-code.result (len_of c.new-cells.result))) (sym c.new-finder.ensures) tt;
}
