-- Whose number a record goes on under, and what shows that a number is used twice.
use Rattle.std.specs.Prelude.{◌==◌, ◌&&◌, ℕ, Bool, not, nat_lt, Option}
use Rattle.std.specs.List.{find}
use Rattle.oct_ops.specs.Body.{Operation}
use Rattle.oct_ops.specs.Operations.{Operations, contains, listed}
use Rattle.oct_store.specs.Summary.{last}

-- whether the set has an operation by the author: its numbers begin at 1
abbrev pub holds_any : Operations → ℕ → Bool
holds_any held author = nat_lt 0 (last (listed held) author)

-- whether the operation is by the author, and the set has it not
abbrev pub is_foreign : Operations → ℕ → Operation → Bool
is_foreign before author o = (o.dot.author == author) && not (contains before o)

-- the least operation by the author that the later set has, and the one before it has not
abbrev pub foreign_of : Operations → Operations → ℕ → Option Operation
foreign_of before later author = find (is_foreign before author) (listed later)
