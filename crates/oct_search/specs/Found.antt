-- What a search for a period finds.
use Rattle.std.specs.Prelude.{ℕ, Option, MatchOption}
use Rattle.oct_code.specs.Code.{Code}
use Rattle.oct_mex.specs.Periods.{IsPeriodicFrom, IsShown, NoneIsShown, NoneIsShownBefore}
use Rattle.oct_mex.specs.declared.period.SeenPeriod.{SeenPeriod}

-- the least period that the nim-values of the heaps below `count` show, from the least heap, and it holds for every heap
pub record IsLeastShown (c : Code) (count : ℕ) (seen : SeenPeriod) : Type 0 where
  pub shown : IsShown c count seen.start seen.period
  pub earliest : NoneIsShownBefore c count seen.start seen.period
  pub least : NoneIsShown c count seen.period
  pub holds : IsPeriodicFrom c seen.start seen.period

-- that period, or none where they show none
abbrev pub IsFound : Code → ℕ → Option SeenPeriod → Type 0
IsFound c count found = MatchOption found (NoneIsShown c count count) (IsLeastShown c count)
