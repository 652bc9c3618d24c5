use Rattle.std.proofs.Common.{◌≡◌, ◌+◌, arith, refl, subst, sym, ◌∙◌}
use Rattle.std.proofs.lemmas.Bool.{false≢true}
use Rattle.oct_sets.specs.Plans.{AddsSteps, IsEndStep}
use Rattle.oct_sets.proofs.Growing.{adds_more, adds_near, adds_same, end_back, end_forth, end_later, end_skip, steps_more}
use Rattle.oct_sets.proofs.plan.Plan.add_ends.Goals.{then-allows+in_ok-push, else-allows}
use Rattle.oct_sets.proofs.plan.Plan.add_ends.Goals as goal

pub loop-removed-preserved : goal.loop-removed-preserved
loop-removed-preserved g c =
    let code = c.args.code.now in
    let value = c.args.value in
    let r = c.loop-removed.removed in
    let is = c.loop-removed.invariant in
    elim c.if-allows.branch [
      | then-allows+in_ok-push w ↦ rw w.self-is (record {
        back = is.back;
        apart = is.apart;
        some = omega arith;
        shaped = λ limit reach width small shaped few. record {
          far = (is.shaped limit reach width small shaped few).far;
          low = (is.shaped limit reach width small shaped few).low;
          back = (is.shaped limit reach width small shaped few).back;
          near = steps_more limit 1 width r value c.loop-removed.self.near w.push.new.self (is.shaped limit reach width small shaped few).near w.in_ok-push.ensures.offsets w.in_ok-push.ensures.values is.some
              (omega (arith, few, c.loop-removed-test.true)) small;
        };
        adds = λ limit reach width small shaped few. adds_more code c.args.self.now c.loop-removed.self (record c.loop-removed.self { near = w.push.new.self }) (IsEndStep code value r) (λ d x. (d ≡ r) × (x ≡ value))
            (IsEndStep code value (r + 1)) (is.adds limit reach width small shaped few)
            (adds_near code c.loop-removed.self (record c.loop-removed.self { near = w.push.new.self }) r value refl refl refl refl (is.shaped limit reach width small shaped few).near.beside w.in_ok-push.ensures.offsets w.in_ok-push.ensures.values)
            (λ d x s. end_back code value r d x s) (λ d x s. end_forth code value r d x is.some (sym c.allows.ensures ∙ w.if-allows.true) s);
      })
      | else-allows w ↦ rw w.self-is (record {
        back = is.back;
        apart = is.apart;
        some = omega arith;
        shaped = λ limit reach width small shaped few. is.shaped limit reach width small shaped few;
        adds = λ limit reach width small shaped few. adds_same code c.args.self.now c.loop-removed.self (IsEndStep code value r) (IsEndStep code value (r + 1)) (is.adds limit reach width small shaped few)
            (λ d x s. end_skip code value r d x (λ yes. false≢true (sym w.if-allows.false ∙ c.allows.ensures ∙ yes)) s) (λ d x s. end_later code value r d x s);
      })
    ]

pub returns-clause-adds : goal.returns-clause-adds
returns-clause-adds g c limit reach width small shaped few =
    subst (λ r. AddsSteps c.args.code.now c.args.self.now c.loop-removed.self (IsEndStep c.args.code.now c.args.value r)) (omega arith) (c.loop-removed.invariant.adds limit reach width small shaped few)
