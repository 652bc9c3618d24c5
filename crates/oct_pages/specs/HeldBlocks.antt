-- The lines of a game's blocks, of which no row is made yet.
use Rattle.std.specs.Prelude.{List, [], map, Option, None, Some}
use Rattle.oct_ops.specs.Operations.{listed}
use Rattle.oct_period.specs.Claims.{claims_in}
use Rattle.oct_period.specs.GameContent.{GameContent}
use Rattle.oct_verify.specs.Filing.{Filing, blocks_in}
use Rattle.oct_pages.specs.Catalogue.{Text, blocks_of}
use Rattle.oct_pages.specs.Sheet.{block_row, block_row_text}
use Rattle.oct_pages.specs.declared.held_blocks.HeldBlocks.{HeldBlocks}

-- the lines of such blocks of a game
abbrev pub lines_by : GameContent → List Filing → List Text
lines_by game pairs = map block_row_text (map (block_row (blocks_in game.blocks) (claims_in game.claims)) pairs)

abbrev pub held_lines : {A : Type 0} → HeldBlocks A → List Text
held_lines h = lines_by h.game (blocks_of h.game.code (listed h.ops.now))

-- those, where there are some
abbrev pub some_lines : {A : Type 0} → Option (HeldBlocks A) → List Text
some_lines None = []
some_lines (Some h) = held_lines h
