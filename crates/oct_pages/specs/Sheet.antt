-- What a catalogue and views show of a game. The operations are listed in their order.
use Rattle.std.specs.Prelude.{ℕ, List, ◌∷◌, ◌++◌, map, length, codes, Option, option_map}
use Rattle.oct_code.specs.Code.{Code}
use Rattle.oct_mex.specs.NimValues.{nim_values}
use Rattle.oct_ops.specs.Body.{Operation}
use Rattle.oct_ops.specs.Operation.{Dot, Block, Period}
use Rattle.oct_ops.specs.Sets as sets
use Rattle.oct_pages.specs.Catalogue.{Text, block_head_text, blocks_of, claims_of, game_text, period_text, status_text, values_lines}
use Rattle.oct_period.specs.Claims.{Claim, claims_in, first_proved}
use Rattle.oct_period.specs.FarBlocks.{block_status}
use Rattle.oct_period.specs.GameContent.{GameContent}
use Rattle.oct_period.specs.Periods.{period_status}
use Rattle.oct_verify.specs.Filing.{blocks_in}
use Rattle.oct_verify.specs.Known.{known}
use Rattle.oct_pages.specs.declared.statuses.BlockRow.{BlockRow}
use Rattle.oct_pages.specs.declared.statuses.PeriodRow.{PeriodRow}

-- a game with its known nim-values, its blocks, its claims, and its first claim that is proved
pub record GameSheet : Type 0 where
  pub code : Code
  pub values : List ℕ
  pub blocks : List BlockRow
  pub periods : List PeriodRow
  pub proved : Option Period

-- the row of a block, by the blocks and claims of its game
abbrev pub block_row : List Block → List Period → Dot × Block → BlockRow
block_row blocks claims b = record { dot = b.0; start = b.1.start; count = length b.1.values; status = block_status blocks claims b.1 }

-- the row of a claim, by the blocks of its game
abbrev pub period_row : List Block → Dot × Period → PeriodRow
period_row blocks p = record { dot = p.0; period = p.1; status = period_status blocks p.1 }

-- the claim of a row
abbrev pub claim_of : PeriodRow → Claim
claim_of row = (row.dot, row.period)

-- the game of this code, also where no operation is of it: then heap 0 alone is known
abbrev pub game_sheet : List Operation → Code → GameSheet
game_sheet ops c =
    let pairs = blocks_of c ops in
    let blocks = map (λ (b : Dot × Block). b.1) pairs in
    let claims = map (λ (p : Dot × Period). p.1) (claims_of c ops) in
    record {
      code = c;
      values = nim_values c (known blocks);
      blocks = map (block_row blocks claims) pairs;
      periods = map (period_row blocks) (claims_of c ops);
      proved = option_map (λ (p : Claim). p.1) (first_proved blocks (claims_of c ops));
    }

-- what a game says of these operations
abbrev pub sheet_by : GameContent → List Operation → GameSheet
sheet_by game ops =
    let blocks = blocks_in game.blocks in
    let claims = sets.listed game.claims in
    record {
      code = game.code;
      values = nim_values game.code (known blocks);
      blocks = map (block_row blocks (claims_in game.claims)) (blocks_of game.code ops);
      periods = map (period_row blocks) claims;
      proved = option_map (λ (p : Claim). p.1) (first_proved blocks claims);
    }

-- ---- the lines of a sheet

abbrev pub block_row_text : BlockRow → Text
block_row_text row = block_head_text row.dot row.start row.count ++ status_text row.status ++ codes "\n"

abbrev pub period_row_text : PeriodRow → Text
period_row_text row = period_text row.dot row.period row.status

abbrev pub sheet_lines : GameSheet → List Text
sheet_lines s = game_text s.code (length s.values) ∷ values_lines s.values ++ map block_row_text s.blocks ++ map period_row_text s.periods
