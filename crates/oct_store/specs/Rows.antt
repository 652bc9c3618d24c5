-- The rows of authors and forks.
use Rattle.std.specs.Prelude.{ℕ, ◌+◌, ◌==◌, max, cond, nat_le, List, [], ◌∷◌, map}
use Rattle.oct_ops.specs.Operation.{Dot}
use Rattle.oct_ops.specs.Body.{Operation}
use Rattle.oct_store.specs.Summary.{through, last, authors, contents, forks}
use Rattle.oct_store.specs.declared.author.Author.{Author}
use Rattle.oct_store.specs.declared.fork.Fork.{Fork}

-- each author of the operations, rising
abbrev pub author_rows : List Operation → List Author
author_rows ops = map (λ a. record { author = a; through = through ops a; last = last ops a }) (authors ops)

-- each dot with two contents or more, rising
abbrev pub fork_rows : List Operation → List Fork
fork_rows ops = map (λ d. record { dot = d; contents = contents ops d }) (forks ops)

-- an author of whom nothing was seen
abbrev pub unseen : ℕ → Author
unseen a = record { author = a; through = 0; last = 0 }

-- an author of whom one more number was seen
abbrev pub with_number : Author → ℕ → Author
with_number a n = record { author = a.author; through = cond (a.through + 1 == n) n a.through; last = max a.last n }

-- a dot of which no content was counted
abbrev pub uncounted : Dot → Fork
uncounted d = record { dot = d; contents = 0 }

-- a dot of which one more content was counted
abbrev pub with_content : Fork → Fork
with_content f = record { dot = f.dot; contents = f.contents + 1 }

-- a dot whose contents are counted, if these are two or more
abbrev pub fork_or_none : Fork → List Fork
fork_or_none f = cond (nat_le 2 f.contents) (f ∷ []) []
