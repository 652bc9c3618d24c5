-- What a set of operations shows of its authors. The operations are listed in their order.
use Rattle.std.specs.Prelude.{◌≡◌, ℕ, zero, suc, ◌+◌, ◌-◌, ◌&&◌, Bool, true, false, not, ◌==◌, nat_le, max, List, map, Option, Some, None}
use Rattle.std.specs.List.{list_any, filter, fold, count_by}
use Rattle.std.specs.Ordering.{nat_cmp, eq_by_cmp}
use Rattle.std.specs.FinMap as finmap
use Rattle.oct_ops.specs.Code.{Code}
use Rattle.oct_ops.specs.Arranged.{arranged}
use Rattle.oct_ops.specs.DotOrder.{dot_cmp}
use Rattle.oct_ops.specs.Games.{of_code}
use Rattle.oct_ops.specs.Operation.{Dot}
use Rattle.oct_ops.specs.Operations.{Operations}
use Rattle.oct_ops.specs.Operations.{keep}
use Rattle.oct_ops.specs.Body.{Operation}
use Rattle.oct_join.specs.Clock.{Clock, covers}

abbrev pub dots : List Operation → List Dot
dots ops = map (λ o. o.dot) ops

-- an operation has the author's dot of this number
abbrev pub has_dot : List Operation → ℕ → ℕ → Bool
has_dot ops author number = list_any (λ o. (o.dot.author == author) && (o.dot.number == number)) ops

-- the first number from n on that the author has not, if it is one of the next `fuel`
abbrev pub first_missing : List Operation → ℕ → ℕ → ℕ → ℕ
first_missing ops author zero n = n
first_missing ops author (suc fuel) n = elim (has_dot ops author n) [ true ↦ first_missing ops author fuel (n + 1) | false ↦ n ]

-- the numbers of the author's operations
abbrev pub numbers_of : List Operation → ℕ → List ℕ
numbers_of ops author = map (λ o. o.dot.number) (filter (λ o. o.dot.author == author) ops)

-- the author's greatest number, or 0
abbrev pub last : List Operation → ℕ → ℕ
last ops author = fold max 0 (numbers_of ops author)

-- the greatest j such that the author's operations 1 to j are there
abbrev pub through : List Operation → ℕ → ℕ
through ops author = first_missing ops author (last ops author) 1 - 1

-- the authors of operations, rising
abbrev pub authors : List Operation → List ℕ
authors ops = arranged nat_cmp (map (λ o. o.dot.author) ops)

-- how many operations have the dot
abbrev pub contents : List Operation → Dot → ℕ
contents ops d = count_by (λ o. eq_by_cmp dot_cmp o.dot d) ops

-- the dots with two contents or more, rising
abbrev pub forks : List Operation → List Dot
forks ops = filter (λ d. nat_le 2 (contents ops d)) (arranged dot_cmp (dots ops))

-- each author whose first operation is there, with the number through which all are, by author
abbrev pub clock_entries : List Operation → List (ℕ × ℕ)
clock_entries ops = map (λ a. (a, through ops a)) (filter (λ a. nat_le 1 (through ops a)) (authors ops))

-- the clock of these entries
abbrev pub clock_of : List Operation → Clock
clock_of ops = finmap.from_entries (clock_entries ops)

-- a number where it is at least 1
abbrev pub positive : ℕ → Option ℕ
positive zero = None
positive (suc n) = Some (suc n)

-- the clock gives each author the number through which all of its operations are there
abbrev pub IsClockOf : List Operation → Clock → Type 0
IsClockOf ops t = (author : ℕ) → finmap.get t author ≡ positive (through ops author)

-- its number is greater than the clock gives for its author
abbrev pub not_covered : Clock → Operation → Bool
not_covered t o = not (covers t o.dot)

-- the operations that a clock does not cover
abbrev pub beyond : Operations → Clock → Operations
beyond ops t = keep (not_covered t) ops

-- the blocks and claims of the game
abbrev pub of_game : Operations → Code → Operations
of_game ops c = keep (of_code c) ops
