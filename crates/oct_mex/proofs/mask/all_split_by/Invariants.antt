use Rattle.std.proofs.Common.{◌≡◌, ◌%◌, ◌<◌, ℕ, IsTrue}
use Rattle.oct_code.specs.Code.{allows}
use Rattle.oct_mex.proofs.mask.all_split_by.Given as goal

abbrev pub invariant-loop-removed : goal.invariant-loop-removed
invariant-loop-removed l = (r : ℕ) → r < l.removed → IsTrue (allows l.code r 2) → r % 2 ≡ l.turn % 2
