use Rattle.std.proofs.Common.{◌-◌, ◌<◌, ◌≤◌, vec_len}
use Rattle.std.specs.List.{HoldsAt}
use Rattle.oct_window.proofs.trail.Trail.last_before.Given as goal

abbrev pub invariant-loop-last : goal.invariant-loop-last
invariant-loop-last g l = record {
  held : l.last < vec_len l.self.windows;
  before : HoldsAt (λ w. w.count ≤ l.heap) l.self.windows.items l.from → HoldsAt (λ w. w.count ≤ l.heap) l.self.windows.items l.last;
}

abbrev pub decreases-loop-last : goal.decreases-loop-last
decreases-loop-last g l = vec_len l.self.windows - l.last
