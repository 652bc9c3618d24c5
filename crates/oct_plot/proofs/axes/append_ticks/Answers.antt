use Rattle.std.proofs.Common.{ℕ, ◌+◌, ◌*◌, ◌++◌, List, sym, ap, ◌∙◌}
use Rattle.oct_ops.proofs.Growing.{grown_twice}
use Rattle.oct_plot.proofs.Ranges.{range_next}
use Rattle.oct_plot.specs.Axes.{tick}
use Rattle.oct_plot.proofs.axes.append_ticks.Goals as goal

pub loop-place-preserved : goal.loop-place-preserved
loop-place-preserved g c =
    let text : ℕ → List ℕ = λ i. tick c.args.axis c.args.first c.args.span ((c.div_ceil-front.result + i) * c.step_of-step.result) in
    grown_twice c.args.out.now.items _ _ _ _ c.loop-place.invariant c.in_ok-append_tick.ensures.ok ∙ ap (λ t. c.args.out.now.items ++ t) (sym (range_next text c.loop-place.place))
