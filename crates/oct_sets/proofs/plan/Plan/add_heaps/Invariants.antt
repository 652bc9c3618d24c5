use Rattle.std.proofs.Common.{◌≡◌, ℕ, ◌+◌}
use Rattle.std.specs.List.{Contains}
use Rattle.oct_code.specs.Code.{len}
use Rattle.oct_sets.specs.Plans.{AddsSteps, IsHeapStep, IsShapedPlan, IsWithin}
use Rattle.oct_sets.specs.declared.sorted.SmallHeap.{SmallHeap}
use Rattle.oct_sets.proofs.plan.Plan.add_heaps.Given as goal

abbrev pub invariant-loop-heap : goal.invariant-loop-heap
invariant-loop-heap g l = record {
  back : l.self.back ≡ l.initial.self.back;
  apart : l.self.apart ≡ l.initial.self.apart;
  shaped : (limit reach : ℕ) → IsShapedPlan limit reach (reach + len l.code) l.initial.self → ((h : SmallHeap) → Contains l.heaps h → IsWithin limit reach l.initial.self.apart h) → IsShapedPlan limit reach (reach + len l.code) l.self;
  adds : (limit reach : ℕ) → IsShapedPlan limit reach (reach + len l.code) l.initial.self → ((h : SmallHeap) → Contains l.heaps h → IsWithin limit reach l.initial.self.apart h)
      → AddsSteps l.code l.initial.self l.self (IsHeapStep l.code l.initial.self.apart l.heaps l.heap-index);
}
