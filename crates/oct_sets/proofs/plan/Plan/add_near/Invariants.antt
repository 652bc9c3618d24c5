use Rattle.std.proofs.Common.{◌≡◌, ℕ, ◌+◌, ◌<◌, ◌≤◌}
use Rattle.oct_code.specs.Code.{len}
use Rattle.oct_sets.specs.Plans.{AddsSteps, IsPairStep, IsShapedPlan}
use Rattle.oct_sets.proofs.plan.Plan.add_near.Given as goal

abbrev pub invariant-loop-removed : goal.invariant-loop-removed
invariant-loop-removed g l = record {
  back : l.self.back ≡ l.initial.self.back;
  apart : l.self.apart ≡ l.initial.self.apart;
  shaped : (limit reach : ℕ) → l.value < limit → IsShapedPlan limit reach (reach + len l.code) l.initial.self → l.heap ≤ reach → IsShapedPlan limit reach (reach + len l.code) l.self;
  adds : (limit reach : ℕ) → l.value < limit → IsShapedPlan limit reach (reach + len l.code) l.initial.self → l.heap ≤ reach → AddsSteps l.code l.initial.self l.self (IsPairStep l.code l.heap l.value l.removed);
}
