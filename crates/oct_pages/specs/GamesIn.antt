-- The games of a set.
use Rattle.std.specs.Prelude.{◌≡◌, List, IfSome}
use Rattle.std.specs.BTreeMap as tree
use Rattle.std.specs.BTreeMap.{BTreeMap}
use Rattle.oct_code.specs.Code.{Code, code_cmp}
use Rattle.oct_ops.specs.Body.{Operation}
use Rattle.oct_ops.specs.Operations.{Operations, listed}
use Rattle.oct_ops.specs.Sets as sets
use Rattle.oct_verify.specs.Filing.{Filings}
use Rattle.oct_period.specs.Claims.{Claims}
use Rattle.oct_period.specs.GameContent.{GameContent}
use Rattle.oct_pages.specs.Catalogue.{blocks_of, claims_of}

-- the blocks of a game, each under its dot
abbrev pub filings_of : List Operation → Code → Filings
filings_of ops c = sets.set_of (blocks_of c ops)

-- the claims of a game, each under its dot
abbrev pub claims_set : List Operation → Code → Claims
claims_set ops c = sets.set_of (claims_of c ops)

-- the game without blocks and claims
abbrev pub new_game : Code → GameContent
new_game c = record { code = c; blocks = sets.empty; claims = sets.empty }

-- the game with exactly the blocks and claims that the set has of it
abbrev pub content_in : Operations → Code → GameContent
content_in ops c = record { code = c; blocks = filings_of (listed ops) c; claims = claims_set (listed ops) c }

-- the game has exactly its blocks and its claims among the operations
pub record IsGameOf (ops : List Operation) (c : Code) (game : GameContent) : Type 0 where
  pub code : game.code ≡ c
  pub blocks : game.blocks ≡ filings_of ops c
  pub claims : game.claims ≡ claims_set ops c

-- each game has exactly the blocks and claims that the set has of it; a game of the set may lack
abbrev pub AreGamesIn : Operations → BTreeMap Code GameContent → Type 0
AreGamesIn ops games = (c : Code) → IfSome (tree.get code_cmp games c) (λ game. game ≡ content_in ops c)
