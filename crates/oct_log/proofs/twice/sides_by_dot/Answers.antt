use Rattle.std.proofs.Common.{sym, ap, ◌∙◌}
use Rattle.std.specs.List.{fold}
use Rattle.oct_ops.specs.Body.{Operation}
use Rattle.oct_ops.specs.Operations.{contains}
use Rattle.oct_log.specs.Twice.{seen, sides_in}
use Rattle.oct_log.specs.declared.twice.Sides.{Sides}
use Rattle.oct_log.proofs.twice.sides_by_dot.Goals as goal

pub loop-op-preserved : goal.loop-op-preserved
loop-op-preserved g c = λ d.
    let step = λ (sides : Sides) (o : Operation). seen d sides (contains c.args.one.now o) (contains c.args.other.now o) o.dot in
    let before = sides_in c.loop-op.table d in
    let next = c.in_ok-see.ensures d ∙ (λ i. seen d before (c.contains.ensures i) (c.contains-in-loop-op.ensures i) (c.dot.ensures.value i)) in
    ap (λ (sides : Sides). fold step sides c.next.new.self) next ∙ sym (ap (fold step before) c.in-Some.ensures.steps) ∙ c.loop-op.invariant d
