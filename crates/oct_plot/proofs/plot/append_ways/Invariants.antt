use Rattle.std.proofs.Common.{◌≡◌, ◌++◌, drop}
use Rattle.std.specs.Prelude.{None}
use Rattle.oct_ops.specs.Growth.{Extends}
use Rattle.oct_plot.specs.Plot.{ways_text}
use Rattle.oct_plot.proofs.plot.append_ways.Given as goal

abbrev pub invariant-loop-point : goal.invariant-loop-point
invariant-loop-point g l = record {
  rest : l.out.items ++ ways_text l.before (drop l.point-index l.points) ≡ l.fn.out.items ++ ways_text None l.points;
  grown : Extends l.fn.out.items l.out.items;
}
