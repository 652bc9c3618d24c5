-- Blocks under their dots, and finite sets of them.
use Rattle.std.specs.Prelude.{◌≡◌, Bool, false, List, map, Option, Some, None, refl}
use Rattle.std.specs.List.{All}
use Rattle.std.specs.Ordering.{nat_cmp, on, then_cmp}
use Rattle.std.specs.declared.cmp.Ordering.{Ordering}
use Rattle.std.specs.Coded.{Coded, code_by, coded×}
use Rattle.oct_code.specs.Code.{Code}
use Rattle.oct_ops.specs.Body as kind
use Rattle.oct_ops.specs.Body.{Body, Operation}
use Rattle.oct_ops.specs.Codes.{code_code, dot_code, block_code}
use Rattle.oct_ops.specs.DotOrder.{dot_cmp}
use Rattle.oct_ops.specs.Operation.{Dot, Block}
use Rattle.oct_ops.specs.Order.{block_cmp}
use Rattle.oct_ops.specs.Sets as sets

-- a block under its dot
abbrev pub Filing : Type 0
Filing = Dot × Block

-- by the first place, then by the dot, then by the block
abbrev pub filing_cmp : Filing → Filing → Ordering
filing_cmp = then_cmp (on (λ f. f.1.start) nat_cmp) (then_cmp (on (λ f. f.0) dot_cmp) (on (λ f. f.1) block_cmp))

abbrev pub Filings : Type 0
Filings = sets.Set filing_cmp

-- the blocks alone
abbrev pub blocks_in : Filings → List Block
blocks_in filings = map (λ (f : Filing). f.1) (sets.listed filings)

-- blocks of this game
abbrev pub AreBlocksOf : Code → List Filing → Type 0
AreBlocksOf code = All (λ (f : Filing). f.1.code ≡ code)

-- the code of a game, and blocks of it under their dots
pub record GameBlocks : Type 0 where
  pub code : Code
  pub blocks : Filings

abbrev pub filing_code : Coded Filing
filing_code = coded× dot_code block_code

abbrev pub game_blocks_code : Coded GameBlocks
game_blocks_code = code_by (Code × Filings) (coded× code_code (sets.code filing_code)) (λ g. (g.code, g.blocks)) (λ p. record { code = p.0; blocks = p.1 }) (λ _. refl)

-- ---- operations

-- the block that an operation says; other bodies are none
abbrev pub block_of : Body → Option Block
block_of (kind.Block b) = Some b
block_of (kind.Period p) = None
block_of (kind.Note n) = None
block_of (kind.Removal r) = None

-- with a block, if there is one, under this dot
abbrev pub with_block_at : GameBlocks → Dot → Option Block → GameBlocks
with_block_at game d None = game
with_block_at game d (Some b) = record game { blocks = sets.insert game.blocks (d, b) }

-- with the block of an operation; another operation changes nothing
abbrev pub with_block_of : GameBlocks → Operation → GameBlocks
with_block_of game o = with_block_at game o.dot (block_of o.body)

-- whether a block, if there is one, is here under this dot
abbrev pub has_block_at : GameBlocks → Dot → Option Block → Bool
has_block_at game d None = false
has_block_at game d (Some b) = sets.contains game.blocks (d, b)

-- whether the block of an operation is here
abbrev pub has_block_of : GameBlocks → Operation → Bool
has_block_of game o = has_block_at game o.dot (block_of o.body)
