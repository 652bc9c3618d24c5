-- What a search for a period in windows comes to.
use Rattle.std.specs.Prelude.{◌≡◌, ℕ, Bool, IsTrue, ◌+◌, ◌-◌, ◌^◌, ◌<◌, ◌≤◌, min}
use Rattle.oct_code.specs.Code.{Code}
use Rattle.oct_mex.specs.NimValues.{nim_value}
use Rattle.oct_mex.specs.Periods.{IsPeriodicFrom, IsPeriodicWithin, NoneIsShown}
use Rattle.oct_mex.specs.Windows.{window}
use Rattle.oct_window.specs.Repeats.{IsLeastPeriod}
use Rattle.oct_window.specs.Watched.{IsMarkAt}
use Rattle.oct_window.specs.Windows.{reach_behind}
use Rattle.oct_window.specs.declared.seeking.SeekError.{SeekError}
use Rattle.oct_window.specs.declared.seeking.SeekError.TheVariants.{OutOfMemory, PastValue, Unkept}
use Rattle.oct_mex.specs.declared.period.SeenPeriod.{SeenPeriod}
use Rattle.oct_window.specs.declared.seeking.TheConstants.{MOST_LISTED}
use Rattle.oct_window.specs.declared.seeking.Tried.{Tried}
use Rattle.oct_window.specs.declared.seeking.Tried.TheVariants.{Done, Lost}
use Rattle.oct_window.specs.declared.sought.Sought.{Sought}
use Rattle.oct_window.specs.declared.sought.Sought.TheVariants.{Least, Unshown, Unseen}

-- the values before the mark of a watch that began behind so many first values do not come again before `count`
pub record NoneIsSeen (c : Code) (listed count : ℕ) : Type 0 where
  pub at : ℕ
  pub marked : IsMarkAt listed at count
  pub behind : at < count
  pub none : (n : ℕ) → at < n → n ≤ count → IsPeriodicWithin c (at - window c (reach_behind c listed)) (n - at) at → ⊥

-- so a period is seen that holds from a window before the mark on, and ends behind it
abbrev pub MarkedPeriodsAreSeen : Type 0
MarkedPeriodsAreSeen = (c : Code) (listed at count start period : ℕ) → IsMarkAt listed at count → 1 ≤ period → start + window c (reach_behind c listed) ≤ at → at + period ≤ count
    → IsPeriodicFrom c start period → NoneIsSeen c listed count → ⊥

-- the least period of the game, from its least heap on, which so many nim-values show
pub record IsLeastOf (c : Code) (count : ℕ) (seen : SeenPeriod) (values : ℕ) : Type 0 where
  pub least : IsLeastPeriod c seen
  pub within : seen.start + seen.period ≤ values
  pub few : values ≤ count

-- at most `count` nim-values show the game's least period; or all of them, as far as they are listed, prove none; or in all of them the marked window does not come again that a watch has behind so many first ones
abbrev pub IsSought : Code → ℕ → Sought → Type 0
IsSought c count (Least seen values) = IsLeastOf c count seen values
IsSought c count (Unshown values) = (values ≡ min count MOST_LISTED) × NoneIsShown c values values
IsSought c count (Unseen values listed) = (values ≡ count) × NoneIsSeen c listed count

-- the numbers are those of at most `count` values, whatever is so of the game
abbrev pub IsTold : ℕ → Sought → Type 0
IsTold count (Least seen values) = (seen.start + seen.period ≤ values) × (values ≤ count)
IsTold count (Unshown values) = values ≤ count
IsTold count (Unseen values listed) = (values ≡ count) × (listed < values)

-- how many values were computed
abbrev pub told_values : Sought → ℕ
told_values (Least seen values) = values
told_values (Unshown values) = values
told_values (Unseen values listed) = values

-- they are no fewer than those that were known before, or as many as are listed at most
abbrev pub IsAsFarAs : ℕ → Sought → Type 0
IsAsFarAs known sought = min known MOST_LISTED ≤ told_values sought

-- the nim-value of some heap below `count` is above 65,535
pub record IsPast (c : Code) (count : ℕ) : Type 0 where
  pub heap : ℕ
  pub within : heap < count
  pub great : 2 ^ 16 ≤ nim_value c heap

-- where memory is refused there is nothing to say of the game; a place is not kept only where the keeper may refuse it
abbrev pub IsSeekError : Bool → Code → ℕ → SeekError → Type 0
IsSeekError refuses c count OutOfMemory = Unit {0}
IsSeekError refuses c count PastValue = IsPast c count
IsSeekError refuses c count Unkept = IsTrue refuses

-- a window behind so many listed values is lost at this heap, and more can be listed
abbrev pub IsLost : ℕ → ℕ → ℕ → Type 0
IsLost listed count heap = (listed < count) × (listed < MOST_LISTED) × (heap ≤ count)

-- the same, whatever is so of the game, from a place on where so many values were known
abbrev pub IsLeft : ℕ → ℕ → ℕ → Tried → Type 0
IsLeft listed known count (Done sought) = IsTold count sought × (known ≤ told_values sought)
IsLeft listed known count (Lost heap) = IsLost listed count heap × (known ≤ heap)

-- what so many listed values, and a window behind them, come to
abbrev pub IsTried : Code → ℕ → ℕ → Tried → Type 0
IsTried c listed count (Done sought) = IsSought c count sought
IsTried c listed count (Lost heap) = IsLost listed count heap
