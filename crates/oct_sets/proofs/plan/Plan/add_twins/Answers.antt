use Rattle.std.proofs.Common.{◌≡◌, ◌+◌, ◌⊎◌, ◌++◌, ◌∷◌, [], arith, refl}
use Rattle.oct_code.specs.Code.{len}
use Rattle.oct_sets.specs.Plans.{AddsSteps, IsPairStep, IsShapedPlan}
use Rattle.oct_sets.specs.declared.plan.Plan.{Plan}
use Rattle.oct_sets.proofs.Growing.{adds_far, adds_same, far_more, on_both, over_twins, twins_far, twins_over, IsOver}
use Rattle.oct_sets.proofs.plan.Plan.add_twins.Goals as goal

pub returns-clause-shaped : goal.returns-clause-shaped
returns-clause-shaped g c limit reach width small shaped least most =
    let old = c.args.self.now in
    let o = old.back + c.args.heap in
    let value = c.args.value in
    let far = c.push.new.self in
    on_both c.push.result (far.offsets.items ≡ old.far.offsets.items ++ o ∷ []) (far.values.items ≡ old.far.values.items ++ value ∷ [])
    (IsShapedPlan limit reach width (record old { far = far })) c.push.ensures.offsets c.push.ensures.values
    (λ offsets values. record {
      far = far_more limit reach old.back old.apart o value old.far far shaped.far offsets values (omega (arith, least)) (omega (arith, most)) small (twins_far reach old.back old.apart c.args.heap least most);
      low = shaped.low;
      near = shaped.near;
      back = shaped.back;
    })

pub returns-clause-adds : goal.returns-clause-adds
returns-clause-adds g c code limit reach width shaped =
    let old = c.args.self.now in
    let heap = c.args.heap in
    let o = old.back + heap in
    let value = c.args.value in
    let far = c.push.new.self in
    let new : Plan g.row.A.Denot = record old { far = far } in
    on_both c.push.result (far.offsets.items ≡ old.far.offsets.items ++ o ∷ []) (far.values.items ≡ old.far.values.items ++ value ∷ [])
    (AddsSteps code old new (λ d x. IsPairStep code heap value (len code + 1) d x ⊎ IsPairStep code (heap + old.apart) value (len code + 1) d x)) c.push.ensures.offsets c.push.ensures.values
    (λ offsets values. adds_same code old new (IsOver code old.back old.apart o value) (λ d x. IsPairStep code heap value (len code + 1) d x ⊎ IsPairStep code (heap + old.apart) value (len code + 1) d x)
    (adds_far code old new o value refl refl refl refl shaped.far.steps.beside offsets values) (twins_over code old.back old.apart heap value) (over_twins code old.back old.apart heap value))
