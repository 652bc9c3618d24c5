-- What is kept beside a set: its games, each with exactly what the set has of it.
use Rattle.std.specs.Prelude.{◌≡◌, Option, Some, None, IfSome, cond, unwrap_or}
use Rattle.std.specs.Ordering.{eq_by_cmp}
use Rattle.oct_code.specs.Code.{Code, code_cmp}
use Rattle.oct_ops.specs.Body.{Body}
use Rattle.oct_ops.specs.Operation.{Dot}
use Rattle.oct_ops.specs.Operations.{Operations}
use Rattle.oct_ops.specs.Games.{game_of_body}
use Rattle.oct_period.specs.GameContent.{GameContent}
pub use Rattle.oct_period.specs.GameContent.{with_block, with_period, with_body}
pub use Rattle.oct_record.specs.Index.{has_game}
pub use Rattle.oct_pages.specs.GamesIn.{content_in, new_game}

-- the game that is found at each code
abbrev pub Games : Type 0
Games = Code → Option GameContent

-- the games of a set
abbrev pub game_in : Operations → Games
game_in ops c = cond (has_game ops c) (Some (content_in ops c)) None

-- these are the games of the set
abbrev pub AreBeside : Operations → Games → Type 0
AreBeside ops found = (c : Code) → found c ≡ game_in ops c

-- each game has the code that it is found at
abbrev pub HasOwnCode : Games → Type 0
HasOwnCode games = (c : Code) → IfSome (games c) (λ game. game.code ≡ c)

-- ---- one operation more

-- what is found after a game was put in
abbrev pub after : Games → Code → GameContent → Games
after old c game q = cond (eq_by_cmp code_cmp c q) (Some game) (old q)

-- the game of this code, or a new one
abbrev pub game_at : Games → Code → GameContent
game_at games c = unwrap_or (games c) (new_game c)

-- the games after a body of this game, or of none, was put in under its dot
abbrev pub filed_at : Games → Dot → Body → Option Code → Games
filed_at games d body None = games
filed_at games d body (Some c) = after games c (with_body (game_at games c) d body)

abbrev pub filed : Games → Dot → Body → Games
filed games d body = filed_at games d body (game_of_body body)
