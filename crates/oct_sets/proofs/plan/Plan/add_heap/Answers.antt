use Rattle.std.proofs.Common.{◌≡◌, ◌+◌, ◌<◌, ◌++◌, ◌∷◌, [], arith, refl}
use Rattle.oct_code.specs.Code.{len}
use Rattle.oct_sets.specs.Plans.{AddsSteps, IsPairStep, IsShapedPlan}
use Rattle.oct_sets.specs.declared.plan.Plan.{Plan}
use Rattle.oct_sets.specs.declared.plan.TheConstants.{LOW}
use Rattle.oct_sets.proofs.Growing.{adds_far, adds_low, adds_same, alone_far, alone_over, far_more, on_both, over_alone, steps_more, IsOver}
use Rattle.oct_sets.proofs.plan.Plan.add_heap.Goals as goal

pub returns-then-heap-lt-BLOCK-clause-adds : goal.returns-then-heap-lt-BLOCK-clause-adds
returns-then-heap-lt-BLOCK-clause-adds g c limit reach small shaped few =
    let old = c.args.self.now in
    let code = c.args.code.now in
    let heap = c.args.heap in
    let value = c.args.value in
    let low = c.push.new.self in
    let new : Plan g.row.A.Denot = record old { low = low } in
    let less : heap < old.back = omega (arith, few, shaped.back) in
    on_both c.push.result (low.offsets.items ≡ old.low.offsets.items ++ heap ∷ []) (low.values.items ≡ old.low.values.items ++ value ∷ [])
    (AddsSteps code old new (IsPairStep code heap value (len code + 1))) c.push.ensures.offsets c.push.ensures.values
    (λ offsets values. adds_same code old new (IsOver code old.back old.apart heap value) (IsPairStep code heap value (len code + 1)) (adds_low code old new heap value refl refl refl refl shaped.low.beside offsets values)
    (alone_over code old.back old.apart heap value less) (over_alone code old.back old.apart heap value less))

pub returns-else-heap-lt-BLOCK-clause-adds : goal.returns-else-heap-lt-BLOCK-clause-adds
returns-else-heap-lt-BLOCK-clause-adds g c limit reach small shaped few =
    let old = c.args.self.now in
    let code = c.args.code.now in
    let heap = c.args.heap in
    let value = c.args.value in
    let far = c.push-else-heap-lt-BLOCK.new.self in
    let new : Plan g.row.A.Denot = record old { far = far } in
    let less : heap < old.back = omega (arith, few, shaped.back) in
    on_both c.push-else-heap-lt-BLOCK.result (far.offsets.items ≡ old.far.offsets.items ++ heap ∷ []) (far.values.items ≡ old.far.values.items ++ value ∷ [])
    (AddsSteps code old new (IsPairStep code heap value (len code + 1))) c.push-else-heap-lt-BLOCK.ensures.offsets c.push-else-heap-lt-BLOCK.ensures.values
    (λ offsets values. adds_same code old new (IsOver code old.back old.apart heap value) (IsPairStep code heap value (len code + 1)) (adds_far code old new heap value refl refl refl refl shaped.far.steps.beside offsets values)
    (alone_over code old.back old.apart heap value less) (over_alone code old.back old.apart heap value less))

pub returns-then-heap-lt-BLOCK-clause-shaped : goal.returns-then-heap-lt-BLOCK-clause-shaped
returns-then-heap-lt-BLOCK-clause-shaped g c limit reach small shaped few =
    let old = c.args.self.now in
    let heap = c.args.heap in
    let value = c.args.value in
    let low = c.push.new.self in
    on_both c.push.result (low.offsets.items ≡ old.low.offsets.items ++ heap ∷ []) (low.values.items ≡ old.low.values.items ++ value ∷ [])
    (IsShapedPlan limit reach (reach + len c.args.code.now) (record old { low = low })) c.push.ensures.offsets c.push.ensures.values
    (λ offsets values. record {
      far = shaped.far;
      low = steps_more limit LOW reach heap value old.low low shaped.low offsets values (omega (arith, c.if-heap-lt-LOW.false)) few small;
      near = shaped.near;
      back = shaped.back;
    })

pub returns-else-heap-lt-BLOCK-clause-shaped : goal.returns-else-heap-lt-BLOCK-clause-shaped
returns-else-heap-lt-BLOCK-clause-shaped g c limit reach small shaped few =
    let old = c.args.self.now in
    let heap = c.args.heap in
    let value = c.args.value in
    let far = c.push-else-heap-lt-BLOCK.new.self in
    on_both c.push-else-heap-lt-BLOCK.result (far.offsets.items ≡ old.far.offsets.items ++ heap ∷ []) (far.values.items ≡ old.far.values.items ++ value ∷ [])
    (IsShapedPlan limit reach (reach + len c.args.code.now) (record old { far = far })) c.push-else-heap-lt-BLOCK.ensures.offsets c.push-else-heap-lt-BLOCK.ensures.values
    (λ offsets values. record {
      far = far_more limit reach old.back old.apart heap value old.far far shaped.far offsets values (omega (arith, c.if-heap-lt-BLOCK.false)) (omega (arith, few)) small
          (alone_far reach old.back old.apart heap (omega (arith, few, shaped.back)) (omega (arith, c.if-heap-lt-BLOCK.false)) few);
      low = shaped.low;
      near = shaped.near;
      back = shaped.back;
    })
