-- A watch over a window.
use Rattle.std.specs.Prelude.{◌≡◌, ℕ, ◌+◌, ◌-◌, ◌*◌, ◌^◌, ◌<◌, ◌≤◌, nat_lt, if◌then◌else◌, List, slice_index}
use Rattle.std.specs.Vec.{vec_len}
use Rattle.oct_code.specs.Code.{Code}
use Rattle.oct_mex.specs.NimValues.{nim_value}
use Rattle.oct_mex.specs.Periods.{IsPeriodicWithin}
use Rattle.oct_mex.specs.Windows.{IsSettled, window}
use Rattle.oct_mex.specs.declared.mask.Mask.{Mask}
use Rattle.oct_mex.specs.declared.period.SeenPeriod.{SeenPeriod}
use Rattle.oct_window.specs.Repeats.{IsRepeat}
use Rattle.oct_window.specs.Windows.{IsKnown, IsShaped}
use Rattle.oct_window.specs.declared.watch.Step.{Step}
use Rattle.oct_window.specs.declared.watch.Step.TheVariants.{On, Again, Lost}
use Rattle.oct_window.specs.declared.watch.Watch.{Watch}

-- how many values are marked
abbrev pub width : {A : Type 0} → Watch A → ℕ
width w = window w.window.code w.window.reach

-- where values are marked before the next one is added: anew only where the window has gone as far again
abbrev pub mark_after : ℕ → ℕ → ℕ
mark_after at count = if nat_lt count (2 * at) then at else count

-- the mark of a watch that begins at the heap `first`, and has so many values: that heap, doubled as often as it stays below them
pub record IsMarkAt (first at count : ℕ) : Type 0 where
  pub times : ℕ
  pub doubled : at ≡ first * 2 ^ times
  pub late : count ≤ 2 * at
  pub behind : 1 ≤ times → at < count

-- there is one such mark
abbrev pub MarksAreOne : Type 0
MarksAreOne = (first at other count : ℕ) → IsMarkAt first at count → IsMarkAt first other count → at ≡ other

-- its parts fit together, whatever values it has
pub record IsWatchable {A : Type 0} (w : Watch A) : Type 0 where
  pub shaped : IsShaped w.window
  pub size : vec_len w.mark ≡ width w
  pub behind : w.window.reach + width w < w.at
  pub passed : w.at ≤ w.window.count
  pub fresh : w.window.count ≤ 2 * w.at

-- the marked values are those before `at`; each heap from there on is settled, and behind none of them do the marked values come again
pub record AreMarked (c : Code) (mask : Mask) (reach at count : ℕ) (mark : List ℕ) : Type 0 where
  pub values : (i : ℕ) → i < window c reach → slice_index mark i ≡ nim_value c (at - window c reach + i)
  pub settled : (n : ℕ) → at ≤ n → n < count → IsSettled c mask reach n
  pub none : (n : ℕ) → at < n → n ≤ count → IsPeriodicWithin c (at - window c reach) (n - at) at → ⊥

-- the watch is right
pub record IsWatched {A : Type 0} (w : Watch A) : Type 0 where
  pub known : IsKnown w.window
  pub marked : AreMarked w.window.code w.window.rare.mask w.window.reach w.at w.window.count w.mark.items

-- the period with which the marked values have come again
abbrev pub seen_of : {A : Type 0} → Watch A → SeenPeriod
seen_of w = record { start = w.at - width w; period = w.window.count - w.at }

-- what a step leaves, of a watch that is right
abbrev pub IsStepped : {A : Type 0} → Watch A → Step → Type 0
IsStepped w On = IsWatched w
IsStepped w Again = IsRepeat w.window.code (seen_of w)
IsStepped w Lost = IsWatched w

abbrev pub count_after : Step → ℕ → ℕ
count_after On count = count + 1
count_after Again count = count + 1
count_after Lost count = count
