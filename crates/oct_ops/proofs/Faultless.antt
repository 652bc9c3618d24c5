-- What has no fault.
use Rattle.std.proofs.Common.{◌≡◌, ◌+◌, ◌≤◌, ◌==◌, Bool, if◌then◌else◌, length, nat_lt, None, Option, Some, false, refl, ap, ◌∙◌}
use Rattle.std.proofs.lemmas.Bool.{le-ltb}
use Rattle.oct_code.specs.declared.limits.TheConstants.{LIMIT}
use Rattle.oct_ops.specs.Faults.{block_fault}
use Rattle.oct_ops.specs.Operation.{Block}
use Rattle.oct_ops.specs.declared.limits.TheConstants.{MAX_ITEMS}

passes : {E : Type 0} (b : Bool) (e : E) (x : Option E) → b ≡ false → x ≡ None → (if b then Some e else x) ≡ None
passes b e x fails rest = ap (λ t. if t then Some e else x) fails ∙ rest

pub block_faultless : (b : Block) → (length b.values == 0) ≡ false → length b.values ≤ MAX_ITEMS → b.start + length b.values ≤ LIMIT → block_fault b ≡ None
block_faultless b some few within =
    passes (length b.values == 0) _ _ some
    (passes (nat_lt MAX_ITEMS (length b.values)) _ _ (le-ltb MAX_ITEMS (length b.values) few)
    (passes (nat_lt LIMIT (b.start + length b.values)) _ _ (le-ltb LIMIT (b.start + length b.values) within) refl))
