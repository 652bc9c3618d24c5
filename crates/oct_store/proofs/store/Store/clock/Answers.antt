use Rattle.std.proofs.Common.{arith, ◌≡◌, ◌+◌, sym, ap, ◌∙◌}
use Rattle.oct_join.specs.Clock.{through as known, empty}
use Rattle.oct_ops.specs.Order.{op_cmp}
use Rattle.oct_ops.specs.Operations.{listed}
use Rattle.oct_ops.specs.SetLaws.{listed-rises}
use Rattle.oct_store.proofs.Greatest.{clock_is}
use Rattle.oct_store.proofs.Throughs.{run, run_raised, run_kept, run_is_clock}
use Rattle.oct_store.proofs.store.Store.clock.Goals as goal

pub loop-op-preserved-in-Continue-1 : goal.loop-op-preserved-in-Continue-1
loop-op-preserved-in-Continue-1 g c =
    let author = c.author-then-through-number.ensures.value ∙ sym c.author.ensures.value in
    let held = ap (known c.loop-op.clock) author ∙ sym c.through.ensures in
    let next : known c.loop-op.clock c.author-then-through-number.result + 1 ≡ c.number-then-through-number.result = omega (arith, held, c.if-through-number.true, c.number.ensures.value, c.number.ensures.valid.number.0, c.number-then-through-number.ensures.value) in
    run_raised c.loop-op.clock _ c.in-Some.op.now _ _ c.in-Some.ensures.steps _ _ _
    (c.author-then-through-number.ensures.value ∙ ap (λ d. d.author) c.dot-dot.ensures.value) (c.number-then-through-number.ensures.value ∙ ap (λ d. d.number) c.dot-dot.ensures.value)
    next c.in_ok-raise.ensures.ok c.loop-op.invariant

pub loop-op-preserved : goal.loop-op-preserved
loop-op-preserved g c =
    run_kept c.loop-op.clock _ c.in-Some.op.now _ _ c.in-Some.ensures.steps c.author.result c.number.result
    (c.author.ensures.value ∙ ap (λ d. d.author) c.dot-dot.ensures.value) (c.number.ensures.value ∙ ap (λ d. d.number) c.dot-dot.ensures.value)
    (λ next. c.if-through-number.false (omega (arith, next, c.through.ensures))) c.loop-op.invariant

pub returns : goal.returns
returns g c =
    let ends : c.loop-op.clock ≡ run empty (listed c.args.self.now) = ap (run c.loop-op.clock) (sym c.in-None.ensures.steps.0) ∙ c.loop-op.invariant in
    ends ∙ clock_is (listed c.args.self.now) (run empty (listed c.args.self.now)) (run_is_clock (listed c.args.self.now) (listed-rises op_cmp c.args.self.now))
