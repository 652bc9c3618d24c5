use Rattle.std.proofs.Common.{◌≡◌, ◌↔◌, ℕ, ◌<◌, ◌≤◌, true}
use Rattle.oct_mex.specs.Marks.{IsMarked}
use Rattle.oct_mex.proofs.marks.are_marked.Given as goal

abbrev pub invariant-loop-at : goal.invariant-loop-at
invariant-loop-at l = (l.all ≡ true) ↔ ((v : ℕ) → l.from ≤ v → v < l.at → IsMarked l.marks v)
