-- What byte strings add to a set.
use Rattle.std.specs.Prelude.{List, [], ◌∷◌, Option, Some, None}
use Rattle.oct_ops.specs.Operations.{Operations, empty, set_of, union}
use Rattle.oct_ops.specs.Body.{Operation}
use Rattle.oct_delta.specs.Text.{Bytes}
use Rattle.oct_delta.specs.Decoding.{read_delta}

abbrev pub set_of_read : Option (List Operation) → Operations
set_of_read None = empty
set_of_read (Some ops) = set_of ops

-- the operations of a text, and none where the bytes are no text
abbrev pub operations_of : Bytes → Operations
operations_of bytes = set_of_read (read_delta bytes)

-- those of several byte strings together
abbrev pub operations_of_all : List Bytes → Operations
operations_of_all [] = empty
operations_of_all (bytes ∷ rest) = union (operations_of bytes) (operations_of_all rest)
