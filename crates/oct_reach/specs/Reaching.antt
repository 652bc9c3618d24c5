-- What a search gives of heaps of any size.
use Rattle.std.specs.Prelude.{ℕ, ◌<◌, nat_lt, Option, Some, None, IsNone, if◌then◌else◌}
use Rattle.oct_code.specs.Code.{Code}
use Rattle.oct_mex.specs.NimValues.{nim_value}
use Rattle.oct_mex.specs.declared.period.SeenPeriod.{SeenPeriod}

-- the nim-value of a heap, where a period is found, or where it is among those that were computed
abbrev pub value_told : Code → Option SeenPeriod → ℕ → ℕ → Option ℕ
value_told c (Some seen) values heap = Some (nim_value c heap)
value_told c None values heap = if nat_lt heap values then Some (nim_value c heap) else None

-- a heap has its nim-value by that
abbrev pub IsTold : Option SeenPeriod → ℕ → ℕ → Type 0
IsTold found values heap = IsNone found → heap < values
