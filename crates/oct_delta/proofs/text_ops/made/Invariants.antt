use Rattle.std.proofs.Common.{◌≡◌, ◌++◌, length}
use Rattle.oct_delta.proofs.text_ops.made.Given as goal

abbrev pub invariant-loop-ops : goal.invariant-loop-ops
invariant-loop-ops g l = l.ops.items ++ l.left ≡ l.fn.left

abbrev pub decreases-loop-ops : goal.decreases-loop-ops
decreases-loop-ops g l = length l.left
