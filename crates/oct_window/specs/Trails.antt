-- The windows that a search has passed.
use Rattle.std.specs.Prelude.{◌≡◌, ℕ, ◌+◌, ◌<◌, ◌≤◌}
use Rattle.std.specs.List.{All}
use Rattle.oct_code.specs.Code.{Code}
use Rattle.oct_mex.specs.Windows.{IsSettled, window}
use Rattle.oct_mex.specs.declared.period.SeenPeriod.{SeenPeriod}
use Rattle.oct_window.specs.Comparisons.{IsCompared, IsPaired}
use Rattle.oct_window.specs.Repeats.{IsRepeat}
use Rattle.oct_window.specs.Windows.{IsKnown, IsSameGame, IsShaped}
use Rattle.oct_window.specs.declared.comparison.Comparison.{Comparison}
use Rattle.oct_window.specs.declared.trail.Later.{Later}
use Rattle.oct_window.specs.declared.trail.Later.TheVariants.{Others, Same, Unknown}
use Rattle.oct_window.specs.declared.trail.Trail.{Trail}
use Rattle.oct_window.specs.declared.window.Window.{Window}

-- each heap from `from` on, as far as the window is, is settled
abbrev pub AreSettled : {A : Type 0} → ℕ → Window A → Type 0
AreSettled from w = (n : ℕ) → from ≤ n → n < w.count → IsSettled w.code w.rare.mask w.reach n

-- an earlier place of a window, behind so many first values
pub record IsPassed {A : Type 0} (listed : ℕ) (now w : Window A) : Type 0 where
  pub shaped : IsShaped w
  pub same : IsSameGame now w
  pub far : w.reach + window w.code w.reach < w.count
  pub behind : listed ≤ w.count
  pub passed : w.count ≤ now.count

-- it is right, and each heap from there on is settled
pub record IsRightlyPassed {A : Type 0} (now w : Window A) : Type 0 where
  pub known : IsKnown w
  pub settled : AreSettled w.count now

-- the windows of a trail are earlier places of this window
abbrev pub IsTrailOf : {A : Type 0} → ℕ → Window A → Trail A → Type 0
IsTrailOf listed now t = All (IsPassed listed now) t.windows.items

abbrev pub IsRightTrail : {A : Type 0} → Window A → Trail A → Type 0
IsRightTrail now t = All (IsRightlyPassed now) t.windows.items

-- the comparison goes on from a heap that is no later than the start, behind so many first values
pub record IsBetween {A : Type 0} (listed : ℕ) (seen : SeenPeriod) (k : Comparison A) : Type 0 where
  pub paired : IsPaired listed k
  pub period : k.period ≡ seen.period
  pub ahead : k.second.heap ≡ k.first.heap + k.period
  pub below : k.first.heap ≤ seen.start

-- what is said of a window a period later, behind so many first values
abbrev pub IsLater : {A : Type 0} → ℕ → SeenPeriod → Later A → Type 0
IsLater listed seen (Same start) = (1 ≤ start) × (start ≤ seen.start)
IsLater listed seen (Others k) = IsBetween listed seen k
IsLater listed seen Unknown = Unit {0}

-- and it is so of the game
abbrev pub IsRightlyLater : {A : Type 0} → Code → SeenPeriod → Later A → Type 0
IsRightlyLater c seen (Same start) = IsRepeat c (record { start = start; period = seen.period })
IsRightlyLater c seen (Others k) = IsCompared c k
IsRightlyLater c seen Unknown = Unit {0}
