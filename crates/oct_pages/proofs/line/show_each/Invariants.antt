use Rattle.std.proofs.Common.{map, drop}
use Rattle.oct_ops.specs.Growth.{Extends}
use Rattle.oct_pages.proofs.Pagers.{Showing}
use Rattle.oct_pages.proofs.line.show_each.Given as goal

abbrev pub invariant-loop-line : goal.invariant-loop-line
invariant-loop-line g l = record {
  shown : Showing l.fn.pager l.pager l.fn.out.items l.out.items (map g.L.Line.spelled l.lines) (map g.L.Line.spelled (drop l.line-index l.lines));
  grown : Extends l.fn.out.items l.out.items;
}
