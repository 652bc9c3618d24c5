use Rattle.std.proofs.Common.{◌≡◌, length}
use Rattle.oct_code.specs.TextFaults.{trimmed}
use Rattle.oct_code.proofs.text.trimmed.Given as goal

abbrev pub invariant-loop-last : goal.invariant-loop-last
invariant-loop-last l = trimmed l.digits ≡ trimmed l.bytes

abbrev pub decreases-loop-last : goal.decreases-loop-last
decreases-loop-last l = length l.digits
