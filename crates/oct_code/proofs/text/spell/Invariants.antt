use Rattle.std.proofs.Common.{◌≡◌, ◌+◌, ◌∷◌, ◌++◌, take, drop, replicate}
use Rattle.oct_code.specs.CodeText.{digit_bytes}
use Rattle.oct_code.specs.declared.limits.TheConstants.{MAX_DIGITS}
use Rattle.oct_code.proofs.text.spell.Given as goal

abbrev pub invariant-loop-place : goal.invariant-loop-place
invariant-loop-place l = l.text ≡ (48 + l.head) ∷ 46 ∷ take l.place (digit_bytes l.digits) ++ drop l.place (replicate MAX_DIGITS 48)
