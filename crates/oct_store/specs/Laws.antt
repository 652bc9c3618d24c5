-- What the numbers of an author and the clock of a set are.
use Rattle.std.specs.Prelude.{◌≡◌, ◌⊎◌, ℕ, ◌+◌, ◌≤◌, true, false, List}
use Rattle.oct_ops.specs.Body.{Operation}
use Rattle.oct_store.specs.Summary.{has_dot, last, through, clock_of, IsClockOf}

-- n is the greatest number of the author, or 0 where there is none
pub record IsLast (ops : List Operation) (author n : ℕ) : Type 0 where
  pub above : (i : ℕ) → has_dot ops author i ≡ true → i ≤ n
  pub is : (n ≡ 0) ⊎ (has_dot ops author n ≡ true)

-- j is the greatest number such that the author's operations 1 to j are there
pub record IsThrough (ops : List Operation) (author j : ℕ) : Type 0 where
  pub all : (i : ℕ) → 1 ≤ i → i ≤ j → has_dot ops author i ≡ true
  pub gap : has_dot ops author (j + 1) ≡ false

abbrev pub LastIsGreatest : Type 0
LastIsGreatest = (ops : List Operation) (author : ℕ) → IsLast ops author (last ops author)

abbrev pub ThroughIsGreatest : Type 0
ThroughIsGreatest = (ops : List Operation) (author : ℕ) → IsThrough ops author (through ops author)

-- a clock has each author of whom all operations from the first on are there, with the number that these reach
abbrev pub ClockGivesThrough : Type 0
ClockGivesThrough = (ops : List Operation) → IsClockOf ops (clock_of ops)
