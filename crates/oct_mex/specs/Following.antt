-- A game that follows another one.
use Rattle.std.specs.Prelude.{◌≡◌, ℕ, ◌<◌, List, ◌∷◌, [], ◌++◌}
use Rattle.oct_code.specs.Code.{Code, allows}
use Rattle.oct_mex.specs.Marks.{IsOneHeapBy}
use Rattle.oct_mex.specs.NimValues.{nim_value}

-- what a leader holds: the nim-values of the heaps 0 to len - 1 in the game of the code
pub record Leading : Type 0 where
  pub code : Code
  pub len : ℕ

-- two heaps may be left by the removal of the same numbers of beans
abbrev pub SplitAlike : Code → Code → Type 0
SplitAlike c d = (r : ℕ) → allows c r 2 ≡ allows d r 2

-- so they may, and the heaps below a number have the same nim-values in both games
pub record Follows (c d : Code) (n : ℕ) : Type 0 where
  pub splits : SplitAlike c d
  pub same : (m : ℕ) → m < n → nim_value c m ≡ nim_value d m

-- some move in a heap of n leaves at most one heap, of this value under g
abbrev pub HasOneHeap : Code → (ℕ → ℕ) → ℕ → ℕ → Type 0
HasOneHeap c g n value = (r : ℕ) × IsOneHeapBy c g n r value

-- the values of a game are kept behind those of others
pub record IsKept (c : Code) (old new : List Leading) : Type 0 where
  pub leading : Leading
  pub code : leading.code ≡ c
  pub is : new ≡ old ++ leading ∷ []
