-- What holds of each operation of a record.
use Rattle.std.specs.Prelude.{◌≡◌, true}
use Rattle.oct_ops.specs.Body.{Operation}
use Rattle.oct_ops.specs.Operations.{Operations, contains}
use Rattle.oct_ops.specs.Valid.{IsOp}

-- each operation of the set keeps the ranges of its parts, as all that are made do
abbrev pub AreValid : Operations → Type 0
AreValid ops = (o : Operation) → contains ops o ≡ true → IsOp o
