use Rattle.std.proofs.Common.{◌≡◌, ◌+◌, arith, refl, subst, sym, ◌∙◌}
use Rattle.std.proofs.lemmas.Bool.{false≢true}
use Rattle.oct_code.specs.Code.{len}
use Rattle.oct_sets.specs.Plans.{AddsSteps, IsPairStep}
use Rattle.oct_sets.proofs.Growing.{adds_near, adds_more, adds_same, pair_back, pair_forth, pair_later, pair_skip, steps_more}
use Rattle.oct_sets.proofs.plan.Plan.add_near.Goals.{then-allows+in_ok-push, else-allows}
use Rattle.oct_sets.proofs.plan.Plan.add_near.Goals as goal

pub loop-removed-preserved : goal.loop-removed-preserved
loop-removed-preserved g c =
    let code = c.args.code.now in
    let heap = c.args.heap in
    let value = c.args.value in
    let r = c.loop-removed.removed in
    let is = c.loop-removed.invariant in
    elim c.if-allows.branch [
      | then-allows+in_ok-push w ↦ rw w.self-is (record {
        back = is.back;
        apart = is.apart;
        shaped = λ limit reach small shaped few. record {
          far = (is.shaped limit reach small shaped few).far;
          low = (is.shaped limit reach small shaped few).low;
          back = (is.shaped limit reach small shaped few).back;
          near = steps_more limit 1 (reach + len code) (r + heap) value c.loop-removed.self.near w.push.new.self (is.shaped limit reach small shaped few).near w.in_ok-push.ensures.offsets w.in_ok-push.ensures.values (omega (arith, c.requires.some))
              (omega (arith, few, c.loop-removed-test.true)) small;
        };
        adds = λ limit reach small shaped few. adds_more code c.args.self.now c.loop-removed.self (record c.loop-removed.self { near = w.push.new.self }) (IsPairStep code heap value r) (λ d x. (d ≡ r + heap) × (x ≡ value))
            (IsPairStep code heap value (r + 1)) (is.adds limit reach small shaped few)
            (adds_near code c.loop-removed.self (record c.loop-removed.self { near = w.push.new.self }) (r + heap) value refl refl refl refl (is.shaped limit reach small shaped few).near.beside w.in_ok-push.ensures.offsets w.in_ok-push.ensures.values)
            (λ d x s. pair_back code heap value r d x s) (λ d x s. pair_forth code heap value r d x (sym c.allows.ensures ∙ w.if-allows.true) s);
      })
      | else-allows w ↦ rw w.self-is (record {
        back = is.back;
        apart = is.apart;
        shaped = λ limit reach small shaped few. is.shaped limit reach small shaped few;
        adds = λ limit reach small shaped few. adds_same code c.args.self.now c.loop-removed.self (IsPairStep code heap value r) (IsPairStep code heap value (r + 1)) (is.adds limit reach small shaped few)
            (λ d x s. pair_skip code heap value r d x (λ yes. false≢true (sym w.if-allows.false ∙ c.allows.ensures ∙ yes)) s) (λ d x s. pair_later code heap value r d x s);
      })
    ]

pub returns-clause-adds : goal.returns-clause-adds
returns-clause-adds g c limit reach small shaped few =
    subst (λ r. AddsSteps c.args.code.now c.args.self.now c.loop-removed.self (IsPairStep c.args.code.now c.args.heap c.args.value r)) (omega arith) (c.loop-removed.invariant.adds limit reach small shaped few)
