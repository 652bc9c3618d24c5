-- Sets by which a window goes on.
use Rattle.std.specs.Prelude.{◌≡◌, ℕ, ◌+◌, ◌≤◌, true, List}
use Rattle.std.specs.List.{Contains}
use Rattle.oct_mex.specs.NimValues.{nim_value}
use Rattle.oct_mex.specs.Rare.{is_rare}
use Rattle.oct_mex.specs.Windows.{window}
use Rattle.oct_sets.specs.Sets.{heap_of, limit_of, reach_of, IsRight, IsShaped}
use Rattle.oct_sets.specs.declared.sets.Sets.{Sets}
use Rattle.oct_window.specs.declared.window.Window.{Window}

-- they fit the window, and wait for its next value
pub record AreSetsOf {A : Type 0} (w : Window A) (s : Sets A) : Type 0 where
  pub shaped : IsShaped w.reach (window w.code w.reach) s
  pub reach : reach_of s ≡ w.reach
  pub heap : heap_of s ≡ w.count
  pub small : w.used ≤ limit_of s

-- they fit the window, but for its last value
pub record IsBehind {A : Type 0} (w : Window A) (s : Sets A) : Type 0 where
  pub shaped : IsShaped w.reach (window w.code w.reach) s
  pub reach : reach_of s ≡ w.reach
  pub heap : heap_of s + 1 ≡ w.count

-- they are so of its game, by a list that has all rare heaps up to the reach
pub record AreRight {A : Type 0} (w : Window A) (s : Sets A) : Type 0 where
  pub heaps : List ℕ
  pub right : IsRight w.code heaps w.reach s
  pub listed : (a : ℕ) → 1 ≤ a → a ≤ w.reach → is_rare w.rare.mask a (nim_value w.code a) ≡ true → Contains heaps a
