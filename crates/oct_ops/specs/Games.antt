-- The game that an operation is of.
use Rattle.std.specs.Prelude.{Bool, Option, Some, None}
use Rattle.std.specs.Option.{option_eq}
use Rattle.oct_code.specs.Code.{Code, code_eq}
use Rattle.oct_ops.specs.Body.{Body, Operation}
use Rattle.oct_ops.specs.Body as kind

-- the game of a block or a claim
abbrev pub game_of_body : Body → Option Code
game_of_body (kind.Block b) = Some b.code
game_of_body (kind.Period p) = Some p.code
game_of_body (kind.Note n) = None
game_of_body (kind.Removal r) = None

abbrev pub game_of : Operation → Option Code
game_of o = game_of_body o.body

-- a block or a claim of the game
abbrev pub is_of_game : Code → Body → Bool
is_of_game c body = option_eq code_eq (game_of_body body) (Some c)

-- an operation of the game
abbrev pub of_code : Code → Operation → Bool
of_code c o = is_of_game c o.body
