use Rattle.std.proofs.Common.{◌≡◌, ◌++◌, drop}
use Rattle.oct_left.specs.Covered.{left}
use Rattle.oct_left.proofs.lacking.left.Given as goal

abbrev pub invariant-loop-code : goal.invariant-loop-code
invariant-loop-code g l = l.lacking.items ++ left l.said.ops l.count (drop l.code-index l.codes) ≡ left l.said.ops l.count l.codes
