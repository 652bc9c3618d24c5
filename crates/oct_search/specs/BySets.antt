-- Sets by which a row goes on.
use Rattle.std.specs.Prelude.{◌≡◌, ℕ, ◌<◌, ◌≤◌, List}
use Rattle.std.specs.List.{Contains}
use Rattle.oct_code.specs.Code.{Code}
use Rattle.oct_mex.specs.Windows.{window}
use Rattle.oct_mex.specs.declared.row.Row.{Row}
use Rattle.oct_sets.specs.Plans.{IsParted}
use Rattle.oct_sets.specs.Sets.{heap_of, limit_of, reach_of, IsRight, IsShaped}
use Rattle.oct_search.specs.declared.by_sets.BySets.{BySets}

-- they wait for the value of the heap n, and are so of the game, by a list that has all rare heaps up to their reach: no other one below n is rare
pub record AreSetsOf {A : Type 0} (c : Code) (n : ℕ) (s : BySets A) : Type 0 where
  pub some : 0 < s.mask.bits
  pub near : 1 ≤ reach_of s.sets
  pub shaped : IsShaped (reach_of s.sets) (window c (reach_of s.sets)) s.sets
  pub heap : heap_of s.sets ≡ n
  pub heaps : List ℕ
  pub right : IsRight c heaps (reach_of s.sets) s.sets
  pub parted : IsParted c s.mask heaps (reach_of s.sets) n

-- they wait for the value of the heap n of a row, and reach each heap that it lists, by words that are wide enough for its values
pub record ServeFor {T A : Type 0} (c : Code) (row : Row T A) (n : ℕ) (s : BySets A) : Type 0 where
  pub right : AreSetsOf c n s
  pub mask : s.mask ≡ row.rare.mask
  pub wide : row.used ≤ limit_of s.sets
  pub most : (h : ℕ) → Contains row.rare.heaps.items h → h ≤ reach_of s.sets
