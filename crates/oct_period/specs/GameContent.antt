-- What is known of a game: its blocks and its period claims.
use Rattle.std.specs.Prelude.{Bool, false, refl}
use Rattle.std.specs.Coded.{Coded, code_by, coded×}
use Rattle.oct_code.specs.Code.{Code}
use Rattle.oct_ops.specs.Body as kind
use Rattle.oct_ops.specs.Body.{Body}
use Rattle.oct_ops.specs.Codes.{code_code}
use Rattle.oct_ops.specs.Operation.{Dot, Block, Period}
use Rattle.oct_ops.specs.Sets as sets
use Rattle.oct_verify.specs.Filing.{Filings, GameBlocks, filing_code}
use Rattle.oct_period.specs.Claims.{Claims, claim_code}

-- the code of a game, and blocks and claims of it under their dots
pub record GameContent : Type 0 where
  pub code : Code
  pub blocks : Filings
  pub claims : Claims

-- what the game's ledger holds
abbrev pub ledger_of : GameContent → GameBlocks
ledger_of g = record { code = g.code; blocks = g.blocks }

abbrev pub game_content_code : Coded GameContent
game_content_code =
    code_by (Code × (Filings × Claims)) (coded× code_code (coded× (sets.code filing_code) (sets.code claim_code)))
    (λ g. (g.code, (g.blocks, g.claims))) (λ p. record { code = p.0; blocks = p.1.0; claims = p.1.1 }) (λ _. refl)

-- ---- one operation more

abbrev pub with_block : GameContent → Dot → Block → GameContent
with_block game d b = record game { blocks = sets.insert game.blocks (d, b) }

abbrev pub with_period : GameContent → Dot → Period → GameContent
with_period game d p = record game { claims = sets.insert game.claims (d, p) }

-- with a block or a claim under its dot; other bodies are of no game
abbrev pub with_body : GameContent → Dot → Body → GameContent
with_body game d (kind.Block b) = with_block game d b
with_body game d (kind.Period p) = with_period game d p
with_body game d (kind.Note n) = game
with_body game d (kind.Removal r) = game

-- whether a block or a claim is here under its dot
abbrev pub has_body : GameContent → Dot → Body → Bool
has_body game d (kind.Block b) = sets.contains game.blocks (d, b)
has_body game d (kind.Period p) = sets.contains game.claims (d, p)
has_body game d (kind.Note n) = false
has_body game d (kind.Removal r) = false
