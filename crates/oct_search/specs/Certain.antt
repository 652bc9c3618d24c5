-- A period that is known to go on.
use Rattle.std.specs.Prelude.{ℕ, ◌+◌, ◌≤◌}
use Rattle.oct_code.specs.Code.{Code}
use Rattle.oct_mex.specs.Periods.{GoesOn}
use Rattle.oct_mex.specs.declared.period.SeenPeriod.{SeenPeriod}

-- the nim-values behind the first `len` come again by the period, which is seen within these
pub record IsCertain (c : Code) (len : ℕ) (seen : SeenPeriod) : Type 0 where
  pub some : 1 ≤ seen.period
  pub within : seen.start + seen.period ≤ len
  pub on : GoesOn c len seen.period
