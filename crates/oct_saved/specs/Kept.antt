-- Which stages can go on, apart from their windows.
use Rattle.std.specs.Prelude.{◌≡◌, ℕ, ◌+◌, ◌*◌, ◌<◌, ◌≤◌, max}
use Rattle.std.specs.Vec.{vec_len}
use Rattle.oct_window.specs.Places.{IsInTurn}
use Rattle.oct_window.specs.Watched.{width}
use Rattle.oct_window.specs.declared.place.Seen.{Seen}
use Rattle.oct_window.specs.declared.seeking.TheConstants.{MOST_LISTED}
use Rattle.oct_window.specs.declared.watch.Watch.{Watch}
use Rattle.oct_window.specs.declared.window.TheConstants.{FARTHEST}

pub record IsKeptWatch {A : Type 0} (listed : ℕ) (w : Watch A) : Type 0 where
  pub few : listed < MOST_LISTED
  pub behind : listed < w.window.count
  pub limited : w.window.count ≤ FARTHEST
  pub marked : w.at < w.window.count
  pub fresh : w.window.count ≤ 2 * w.at
  pub size : vec_len w.mark ≡ width w
  pub passed : w.window.reach + width w < w.at

pub record IsKeptSeen {A : Type 0} (listed : ℕ) (s : Seen A) : Type 0 where
  pub few : listed < MOST_LISTED
  pub behind : listed < s.values
  pub limited : s.values ≤ FARTHEST
  pub within : s.start + s.comparison.period ≤ s.values
  pub begun : 1 ≤ s.start
  pub below : s.comparison.first.heap ≤ s.start
  pub turn : IsInTurn s.comparison
  pub first : s.comparison.first.window.count ≡ max s.comparison.first.heap listed
  pub second : s.comparison.second.window.count ≡ max s.comparison.second.heap listed
  pub some : 1 ≤ s.comparison.start
  pub least : s.comparison.start ≤ max 1 s.comparison.first.heap
