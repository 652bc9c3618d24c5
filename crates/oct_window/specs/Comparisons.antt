-- Nim-values that are read one after another, and compared with those one period later.
use Rattle.std.specs.Prelude.{◌≡◌, ◌≢◌, ℕ, ◌+◌, ◌-◌, ◌<◌, ◌≤◌, max}
use Rattle.oct_code.specs.Code.{Code}
use Rattle.oct_mex.specs.NimValues.{nim_value}
use Rattle.oct_mex.specs.Periods.{IsPeriodicWithin}
use Rattle.oct_mex.specs.declared.period.SeenPeriod.{SeenPeriod}
use Rattle.oct_window.specs.Repeats.{IsLeastPeriod, IsRepeat}
use Rattle.oct_window.specs.Windows.{IsKnown, IsShaped}
use Rattle.oct_window.specs.declared.comparison.Comparison.{Comparison}
use Rattle.oct_window.specs.declared.reader.Reader.{Reader}

-- its window has gone as far as it has to behind a row of so many values
pub record IsInStep {A : Type 0} (values : ℕ) (r : Reader A) : Type 0 where
  pub shaped : IsShaped r.window
  pub count : r.window.count ≡ max r.heap values

-- its window is right, and of the code's game
pub record IsRight {A : Type 0} (c : Code) (r : Reader A) : Type 0 where
  pub known : IsKnown r.window
  pub code : r.window.code ≡ c

-- its parts fit together, behind a row of so many values
pub record IsPaired {A : Type 0} (values : ℕ) (k : Comparison A) : Type 0 where
  pub first : IsInStep values k.first
  pub second : IsInStep values k.second
  pub some : 1 ≤ k.start
  pub within : k.start ≤ max 1 k.first.heap

-- its readers are right, and `start` is the least heap, from 1 on, from which on each compared value comes again
pub record IsCompared {A : Type 0} (c : Code) (k : Comparison A) : Type 0 where
  pub first : IsRight c k.first
  pub second : IsRight c k.second
  pub again : IsPeriodicWithin c k.start k.period k.first.heap
  pub earliest : 1 < k.start → nim_value c (k.start - 1 + k.period) ≢ nim_value c (k.start - 1)

-- where a period holds from some heap on, and no shorter one does, its least start is behind the last value that does not come again
abbrev pub LeastStartsAreLeast : Type 0
LeastStartsAreLeast = (c : Code) (seen : SeenPeriod) (start : ℕ) → IsRepeat c seen → 1 ≤ start → IsPeriodicWithin c start seen.period seen.start
    → (1 < start → nim_value c (start - 1 + seen.period) ≢ nim_value c (start - 1)) → IsLeastPeriod c (record { start = start; period = seen.period })
