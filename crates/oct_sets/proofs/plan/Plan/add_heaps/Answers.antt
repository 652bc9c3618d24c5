use Rattle.std.proofs.Common.{◌≡◌, ◌+◌, ◌-◌, arith, subst, subst₂, sym, slice_index_or, false, ◌∙◌}
use Rattle.std.proofs.lemmas.List.{get_or_default}
use Rattle.std.proofs.lemmas.List.Elements.{Contains-get_or}
use Rattle.oct_code.specs.Code.{len}
use Rattle.oct_sets.specs.Plans.{AddsSteps, IsHeapStep, IsSmallStep, IsWithin}
use Rattle.oct_sets.specs.declared.sorted.SmallHeap.{SmallHeap}
use Rattle.oct_sets.proofs.Growing.{adds_more, heap_back, heap_forth}
use Rattle.oct_sets.proofs.plan.Plan.add_heaps.Goals as goal

pub add_small-requires-clause-within : goal.add_small-requires-clause-within
add_small-requires-clause-within g c =
    let none : SmallHeap = record { place = 0; value = 0; heap = 0; twin = false } in
    let h = slice_index_or c.args.heaps.now c.loop-heap.heap-index none in
    subst₂ (λ b a. IsWithin 64 (b - 1) a h) (sym c.loop-heap.invariant.back) (sym c.loop-heap.invariant.apart) (c.requires.each h (Contains-get_or c.args.heaps.now c.loop-heap.heap-index none c.loop-heap-test.true))

pub loop-heap-preserved : goal.loop-heap-preserved
loop-heap-preserved g c =
    let code = c.args.code.now in
    let old = c.args.self.now in
    let heaps = c.args.heaps.now in
    let i = c.loop-heap.heap-index in
    let none : SmallHeap = record { place = 0; value = 0; heap = 0; twin = false } in
    let h = slice_index_or heaps i none in
    let is = c.loop-heap.invariant in
    let here : (e : SmallHeap) → slice_index_or heaps i e ≡ h = λ e. get_or_default heaps i e none c.loop-heap-test.true in
    let listed = Contains-get_or heaps i none c.loop-heap-test.true in
    record {
      back = c.in_ok-add_small.ensures.back ∙ is.back;
      apart = c.in_ok-add_small.ensures.apart ∙ is.apart;
      shaped = λ limit reach shaped each. c.in_ok-add_small.ensures.shaped limit reach (is.shaped limit reach shaped each) (subst (λ a. IsWithin limit reach a h) (sym is.apart) (each h listed));
      adds = λ limit reach shaped each. adds_more code old c.loop-heap.self c.add_small.new.self (IsHeapStep code old.apart heaps i) (IsSmallStep code old.apart h) (IsHeapStep code old.apart heaps (i + 1))
          (is.adds limit reach shaped each)
          (subst (λ a. AddsSteps code c.loop-heap.self c.add_small.new.self (IsSmallStep code a h)) is.apart
          (c.in_ok-add_small.ensures.adds limit reach (is.shaped limit reach shaped each) (subst (λ a. IsWithin limit reach a h) (sym is.apart) (each h listed))))
          (λ d x s. heap_back code old.apart heaps i h d x here s) (λ d x s. heap_forth code old.apart heaps i h d x here s);
    }

pub returns-clause-adds : goal.returns-clause-adds
returns-clause-adds g c limit reach shaped each =
    subst (λ i. AddsSteps c.args.code.now c.args.self.now c.loop-heap.self (IsHeapStep c.args.code.now c.args.self.now.apart c.args.heaps.now i)) (omega arith) (c.loop-heap.invariant.adds limit reach shaped each)
