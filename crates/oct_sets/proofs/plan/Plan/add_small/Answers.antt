use Rattle.std.proofs.Common.{◌≡◌, ◌+◌, ◌⊎◌, IsTrue, inl, inr, ap, arith, sym, subst, ◌∙◌}
use Rattle.std.proofs.lemmas.Bool.{false≢true}
use Rattle.oct_code.specs.Code.{len}
use Rattle.oct_sets.specs.Plans.{AddsSteps, IsPairStep, IsSmallStep}
use Rattle.oct_sets.proofs.Growing.{adds_same, on_one}
use Rattle.oct_sets.proofs.plan.Plan.add_small.Goals as goal

pub returns-then-heap-clause-shaped : goal.returns-then-heap-clause-shaped
returns-then-heap-clause-shaped g c limit reach shaped within =
    let twin = within.twin c.if-heap.true in
    c.add_twins.ensures.shaped limit reach (reach + len c.args.code.now) within.small shaped twin.0 twin.1

pub returns-then-heap-clause-adds : goal.returns-then-heap-clause-adds
returns-then-heap-clause-adds g c limit reach shaped within =
    let old = c.args.self.now in
    let new = c.add_twins.new.self in
    let code = c.args.code.now in
    let h = c.args.heap in
    on_one c.add_twins.result (AddsSteps code old new (λ d x. IsPairStep code h.heap h.value (len code + 1) d x ⊎ IsPairStep code (h.heap + old.apart) h.value (len code + 1) d x)) (AddsSteps code old new (IsSmallStep code old.apart h))
    (c.add_twins.ensures.adds code limit reach (reach + len code) shaped)
    (λ adds. adds_same code old new (λ d x. IsPairStep code h.heap h.value (len code + 1) d x ⊎ IsPairStep code (h.heap + old.apart) h.value (len code + 1) d x) (IsSmallStep code old.apart h) adds
    (λ d x s. elim s [ inl one ↦ inl one | inr two ↦ inr two.1 ]) (λ d x s. elim s [ inl one ↦ inl one | inr two ↦ inr (c.if-heap.true, two) ]))

pub returns-else-heap-clause-adds : goal.returns-else-heap-clause-adds
returns-else-heap-clause-adds g c limit reach shaped within =
    let old = c.args.self.now in
    let new = c.add_heap.new.self in
    let code = c.args.code.now in
    let h = c.args.heap in
    on_one c.add_heap.result (AddsSteps code old new (IsPairStep code h.heap h.value (len code + 1))) (AddsSteps code old new (IsSmallStep code old.apart h))
    (c.add_heap.ensures.adds limit reach within.small shaped within.few)
    (λ adds. adds_same code old new (IsPairStep code h.heap h.value (len code + 1)) (IsSmallStep code old.apart h) adds
    (λ d x s. elim s [ inl one ↦ one | inr two ↦ absurd (false≢true (sym c.if-heap.false ∙ two.0)) ]) (λ d x s. inl s))
