use Rattle.std.proofs.Common.{ℕ, ◌≤◌, ◌<◌, IsTrue}
use Rattle.oct_code.specs.Code.{allows}
use Rattle.oct_mex.proofs.marks.may_split.Given as goal

abbrev pub invariant-loop-removed : goal.invariant-loop-removed
invariant-loop-removed l = (each : ℕ) → l.from ≤ each → each < l.removed → IsTrue (allows l.code each 2)
