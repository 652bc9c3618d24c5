-- A window of the nim-values of a game.
use Rattle.std.specs.Prelude.{◌≡◌, ℕ, ◌+◌, ◌-◌, ◌/◌, ◌^◌, ◌<◌, ◌≤◌, false}
use Rattle.std.specs.List.{Contains}
use Rattle.std.specs.Vec.{vec_len, vec_capacity}
use Rattle.oct_code.specs.Code.{Code, len}
use Rattle.oct_mex.specs.Marks.{IsTableFor}
use Rattle.oct_mex.specs.NimValues.{nim_value}
use Rattle.oct_mex.specs.Rare.{AreBeside, is_rare, IsFit, ListsRare}
use Rattle.oct_mex.specs.Windows.{IsHeld, window}
use Rattle.oct_window.specs.declared.window.TheConstants.{MARKS}
use Rattle.oct_window.specs.declared.window.Window.{Window}

-- its parts fit together, whatever values it has
pub record IsShaped {A : Type 0} (w : Window A) : Type 0 where
  pub some : 0 < w.rare.mask.bits
  pub near : 1 ≤ w.reach
  pub small : w.reach < 2 ^ 32
  pub room : w.reach + window w.code w.reach < vec_len w.held
  pub spare : w.reach + window w.code w.reach + 1 < vec_capacity w.held
  pub beside : AreBeside w.held.items w.rare.heaps.items w.rare.values.items
  pub few : (h : ℕ) → Contains w.rare.heaps.items h → h ≤ w.reach
  pub table : IsTableFor w.held.items w.used
  pub used : w.used ≤ MARKS

-- it has the nim-values of the heaps up to `reach` and of the last ones before `count`, and each rare heap before `count` is in its list
pub record IsKnown {A : Type 0} (w : Window A) : Type 0 where
  pub fit : IsFit w.code w.rare.mask
  pub held : IsHeld w.code w.reach w.count w.held.items
  pub rare : ListsRare w.rare.mask w.held.items (w.reach + 1) w.rare.heaps.items
  pub common : (h : ℕ) → w.reach < h → h < w.count → is_rare w.rare.mask h (nim_value w.code h) ≡ false

-- all but its values and their count is as in another one
pub record IsSameGame {A : Type 0} (v w : Window A) : Type 0 where
  pub code : w.code ≡ v.code
  pub mask : w.rare.mask ≡ v.rare.mask
  pub reach : w.reach ≡ v.reach

-- the reach of a window that begins behind so many first values: half of them, but for those that the digits take
abbrev pub reach_behind : Code → ℕ → ℕ
reach_behind c values = (values - (len c + 2)) / 2

-- it begins behind the first values of a game, and is right
pub record IsBegun {A : Type 0} (c : Code) (values : ℕ) (w : Window A) : Type 0 where
  pub shaped : IsShaped w
  pub known : IsKnown w
  pub code : w.code ≡ c
  pub count : w.count ≡ values
  pub reach : w.reach ≡ reach_behind c values
