-- What an author may issue: the next nim-values of a game.
use Rattle.std.specs.Prelude.{ℕ, ◌-◌, ◌==◌, min, nat_lt, if◌then◌else◌, List, Option, Some, None}
use Rattle.oct_code.specs.Code.{Code}
use Rattle.oct_code.specs.declared.limits.TheConstants.{LIMIT}
use Rattle.oct_ops.specs.Operation.{Block, claimed}
use Rattle.oct_ops.specs.declared.limits.TheConstants.{MAX_ITEMS}
use Rattle.oct_verify.specs.Known.{known}
use Rattle.oct_verify.specs.Next.{next_values}
use Rattle.oct_period.specs.declared.computing.ComputeError.{ComputeError}
use Rattle.oct_period.specs.declared.computing.ComputeError.TheVariants as compute

-- the block of the next nim-values: from the known length on, so many of them or as many as the limit leaves
abbrev pub next_block : Code → List Block → ℕ → Block
next_block c blocks count = claimed c (known blocks) (next_values c blocks (min count (LIMIT - known blocks)))

-- why none is computed, by the known length and the count, in this order
abbrev pub compute_fault : ℕ → ℕ → Option ComputeError
compute_fault known count =
    if count == 0 then Some compute.Zero
    else (if nat_lt MAX_ITEMS count then Some compute.TooMany
    else (if known == LIMIT then Some compute.AtLimit
    else None))
