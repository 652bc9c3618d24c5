use Rattle.std.proofs.Common.{◌-◌, ◌≤◌, length}
use Rattle.oct_mex.proofs.mask.transform.Given as goal

abbrev pub invariant-loop-half : goal.invariant-loop-half
invariant-loop-half l = 1 ≤ l.half

abbrev pub decreases-loop-half : goal.decreases-loop-half
decreases-loop-half l = length l.numbers - l.half
