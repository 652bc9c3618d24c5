-- What is said of some games alone.
use Rattle.std.specs.Prelude.{◌≡◌, Bool, List, [], ◌∷◌}
use Rattle.std.specs.List.{list_any}
use Rattle.oct_code.specs.Code.{Code}
use Rattle.oct_ops.specs.Body.{Operation}
use Rattle.oct_ops.specs.Games.{of_code}
use Rattle.oct_ops.specs.Operations.{Operations, empty, keep, union}
use Rattle.oct_store.specs.Summary.{of_game}

-- the blocks and claims of these games
abbrev pub only_of : List Code → Operations → Operations
only_of [] ops = empty
only_of (c ∷ named) ops = union (of_game ops c) (only_of named ops)

-- a block or a claim of one of these games
abbrev pub of_any : List Code → Operation → Bool
of_any named o = list_any (λ c. of_code c o) named

-- ---- laws

-- they are the operations that are of one of these games, and no other
abbrev pub OnlyTheseAreKept : Type 0
OnlyTheseAreKept = (named : List Code) (ops : Operations) → only_of named ops ≡ keep (of_any named) ops
