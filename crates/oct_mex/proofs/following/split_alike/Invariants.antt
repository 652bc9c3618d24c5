use Rattle.std.proofs.Common.{◌≡◌, ◌<◌, ℕ}
use Rattle.oct_code.specs.Code.{allows}
use Rattle.oct_mex.proofs.following.split_alike.Given as goal

abbrev pub invariant-loop-removed : goal.invariant-loop-removed
invariant-loop-removed l = (r : ℕ) → r < l.removed → allows l.code r 2 ≡ allows l.other r 2
