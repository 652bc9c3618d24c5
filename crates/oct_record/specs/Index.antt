-- What is kept beside a set: the operations of each game, and the notes.
use Rattle.std.specs.Prelude.{◌≡◌, ◌≢◌, Bool, Option, Some, None, IfSome, cond, unwrap_or}
use Rattle.std.specs.List.{list_any}
use Rattle.oct_code.specs.Code.{Code}
use Rattle.oct_ops.specs.Body.{Operation}
use Rattle.oct_ops.specs.Games.{of_code}
use Rattle.oct_ops.specs.Operations.{Operations, empty, insert, listed, remove}
use Rattle.oct_notes.specs.Notes.{concerns_notes, notes_of}
use Rattle.oct_store.specs.Summary.{of_game}

-- the set that is found at each code, and none where nothing is
abbrev pub Index : Type 0
Index = Code → Option Operations

-- the operations that are found of a game
abbrev pub held_at : Index → Code → Operations
held_at index c = unwrap_or (index c) empty

-- no game is found without operations
abbrev pub AreFilled : Index → Type 0
AreFilled index = (c : Code) → IfSome (index c) (λ (held : Operations). held ≢ empty)

-- whether the set has a block or a claim of the game
abbrev pub has_game : Operations → Code → Bool
has_game ops c = list_any (of_code c) (listed ops)

-- the operations of each game that has some
abbrev pub index_of : Operations → Index
index_of ops c = cond (has_game ops c) (Some (of_game ops c)) None

-- these are the operations of each game of the set, and its notes
pub record AreBeside (ops : Operations) (index : Index) (held : Operations) : Type 0 where
  pub games : (c : Code) → held_at index c ≡ of_game ops c
  pub notes : held ≡ notes_of ops

-- the operations of a game after an operation was put in, if it is of the game
abbrev pub filed : Operation → Code → Operations → Operations
filed o c held = cond (of_code c o) (insert held o) held

-- and after it was taken out
abbrev pub unfiled : Operation → Code → Operations → Operations
unfiled o c held = cond (of_code c o) (remove held o) held

-- the notes after an operation was put in, if it is a note or a removal
abbrev pub noted : Operation → Operations → Operations
noted o notes = cond (concerns_notes o.body) (insert notes o) notes

-- and after it was taken out
abbrev pub unnoted : Operation → Operations → Operations
unnoted o notes = cond (concerns_notes o.body) (remove notes o) notes
