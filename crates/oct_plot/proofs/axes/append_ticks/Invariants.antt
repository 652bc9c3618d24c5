use Rattle.std.proofs.Common.{◌≡◌, ◌+◌, ◌++◌, ◌*◌, map}
use Rattle.std.specs.List.{concat, range_with_len}
use Rattle.oct_plot.specs.Axes.{tick}
use Rattle.oct_plot.proofs.axes.append_ticks.Given as goal

abbrev pub invariant-loop-place : goal.invariant-loop-place
invariant-loop-place g l = l.out.items ≡ l.fn.out.items ++ concat (map (λ i. tick l.axis l.first l.span ((l.front + i) * l.step)) (range_with_len 0 l.place))
