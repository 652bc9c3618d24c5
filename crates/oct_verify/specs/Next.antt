-- The nim-values that come after those that are known.
use Rattle.std.specs.Prelude.{ℕ, ◌+◌, List, drop}
use Rattle.oct_code.specs.Code.{Code}
use Rattle.oct_mex.specs.NimValues.{nim_values}
use Rattle.oct_ops.specs.Operation.{Block}
use Rattle.oct_verify.specs.Known.{known}

-- the nim-values of so many heaps, from the known length on
abbrev pub next_values : Code → List Block → ℕ → List ℕ
next_values c blocks count = drop (known blocks) (nim_values c (known blocks + count))
