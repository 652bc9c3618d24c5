use Rattle.std.proofs.Common.{◌≡◌, ℕ, ◌<◌, ◌≤◌}
use Rattle.oct_code.specs.Code.{len}
use Rattle.oct_sets.specs.Plans.{AddsSteps, IsEndStep, IsShapedPlan}
use Rattle.oct_sets.proofs.plan.Plan.add_ends.Given as goal

abbrev pub invariant-loop-removed : goal.invariant-loop-removed
invariant-loop-removed g l = record {
  back : l.self.back ≡ l.initial.self.back;
  apart : l.self.apart ≡ l.initial.self.apart;
  some : 1 ≤ l.removed;
  shaped : (limit reach width : ℕ) → l.value < limit → IsShapedPlan limit reach width l.initial.self → len l.code ≤ width → IsShapedPlan limit reach width l.self;
  adds : (limit reach width : ℕ) → l.value < limit → IsShapedPlan limit reach width l.initial.self → len l.code ≤ width → AddsSteps l.code l.initial.self l.self (IsEndStep l.code l.value l.removed);
}
