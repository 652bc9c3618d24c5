-- Periods that a window shows.
use Rattle.std.specs.Prelude.{ℕ, ◌<◌, ◌≤◌}
use Rattle.oct_code.specs.Code.{Code}
use Rattle.oct_mex.specs.Periods.{IsPeriodicFrom, IsShown, NoneIsShown, NoneIsShownBefore}
use Rattle.oct_mex.specs.declared.period.SeenPeriod.{SeenPeriod}

-- the nim-values have no shorter period, from no heap on
abbrev pub NoneIsShorter : Code → ℕ → Type 0
NoneIsShorter c end = (start period : ℕ) → 1 ≤ period → period < end → IsPeriodicFrom c start period → ⊥

-- a period that holds for every heap from `start` on, and no shorter one does
pub record IsRepeat (c : Code) (seen : SeenPeriod) : Type 0 where
  pub first : 1 ≤ seen.start
  pub some : 1 ≤ seen.period
  pub holds : IsPeriodicFrom c seen.start seen.period
  pub least : NoneIsShorter c seen.period

-- and it holds from no heap before, but from 0
pub record IsLeastPeriod (c : Code) (seen : SeenPeriod) : Type 0 where
  pub repeats : IsRepeat c seen
  pub earliest : (start : ℕ) → 1 ≤ start → start < seen.start → IsPeriodicFrom c start seen.period → ⊥

-- a period that first nim-values show, the least one from the least heap, is the least one of the game, and holds from no earlier heap
abbrev pub ShownPeriodsAreLeast : Type 0
ShownPeriodsAreLeast = (c : Code) (count : ℕ) (seen : SeenPeriod) → IsShown c count seen.start seen.period → NoneIsShownBefore c count seen.start seen.period
    → NoneIsShown c count seen.period → IsPeriodicFrom c seen.start seen.period → IsLeastPeriod c seen
