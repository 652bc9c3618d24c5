-- The script of a set of operations, which are listed in their order: which rows each table has.
use Rattle.std.specs.Prelude.{ℕ, List, [], ◌∷◌, length, codes, Option, Some, None}
use Rattle.std.specs.List.{concat, flat_map}
use Rattle.std.specs.Fmt.{decimal}
use Rattle.oct_code.specs.Code.{Code}
use Rattle.oct_log.specs.Log.{said_text}
use Rattle.oct_ops.specs.Body as kind
use Rattle.oct_ops.specs.Body.{Body, Operation}
use Rattle.oct_ops.specs.Games.{game_of_body}
use Rattle.oct_ops.specs.Operation.{Dot, Note}
use Rattle.oct_overview.specs.Line.{period_of}
use Rattle.oct_overview.specs.declared.line.LeastPeriod.{LeastPeriod}
use Rattle.oct_pages.specs.declared.statuses.BlockRow.{BlockRow}
use Rattle.oct_pages.specs.declared.statuses.PeriodRow.{PeriodRow}
use Rattle.oct_period.specs.declared.status.PeriodStatus.{PeriodStatus}
use Rattle.oct_period.specs.declared.status.PeriodStatus.TheVariants as of_claim
use Rattle.oct_sheet.specs.Names.{Called}
use Rattle.oct_sheet.specs.Sheet.{GameSheet, Sheet, forks_of, notes_of, sheet}
use Rattle.oct_store.specs.declared.author.Author.{Author}
use Rattle.oct_store.specs.declared.fork.Fork.{Fork}
use Rattle.oct_text.specs.Words.{Text}
use Rattle.oct_verify.specs.declared.status.Status.{Status}
use Rattle.oct_verify.specs.declared.status.Status.TheVariants as of_block
use Rattle.oct_sql.specs.Cells.{code_cell, code_literal, literal, name_cell, null, number_cell, row, truth_cell, values_row}
use Rattle.oct_sql.specs.Schema.{ending, opening}

-- ---- authors: author, name, through, last

abbrev pub called_row : Author → Text → Text
called_row a name = row (codes "authors") (decimal a.author ∷ name_cell name ∷ decimal a.through ∷ decimal a.last ∷ [])

abbrev pub author_row : Called → Text
author_row a = called_row a.author a.name

-- ---- games: code, known, period, start, claimed

-- how many nim-values are known, the least period that they prove, the least heap from which on they prove it, and whether a claim says just this
abbrev pub game_row : Code → ℕ → Option LeastPeriod → Text
game_row c known None = row (codes "games") (code_literal c ∷ decimal known ∷ null ∷ null ∷ null ∷ [])
game_row c known (Some least) =
    row (codes "games") (code_literal c ∷ decimal known ∷ decimal least.period.period ∷ decimal least.period.start ∷ truth_cell least.is_claimed ∷ [])

-- ---- blocks: place, author, number, code, start, count, status, heap, claimed, truth

-- the row of a block with this status; SQLite numbers the places
abbrev pub block_by : Code → BlockRow → Text → Option ℕ → Option ℕ → Option ℕ → Text
block_by c b status heap claimed truth =
    row (codes "blocks")
    (null ∷ decimal b.dot.author ∷ decimal b.dot.number ∷ code_literal c ∷ decimal b.start ∷ decimal b.count ∷ literal status
    ∷ number_cell heap ∷ number_cell claimed ∷ number_cell truth ∷ [])

-- of a block that is wrong its least wrong heap, the value that it claims there, and the nim-value
abbrev pub block_of : Code → BlockRow → Status → Text
block_of c b of_block.Proved = block_by c b (codes "proved") None None None
block_of c b (of_block.Refuted place claimed truth) = block_by c b (codes "refuted") (Some place) (Some claimed) (Some truth)
block_of c b of_block.Pending = block_by c b (codes "pending") None None None

abbrev pub block_row : Code → BlockRow → Text
block_row c b = block_of c b b.status

-- ---- claims: place, author, number, code, start, period, status, heap, needs

abbrev pub claim_by : Code → PeriodRow → Text → Option ℕ → Option ℕ → Text
claim_by c p status heap needs =
    row (codes "claims")
    (null ∷ decimal p.dot.author ∷ decimal p.dot.number ∷ code_literal c ∷ decimal p.period.start ∷ decimal p.period.period ∷ literal status
    ∷ number_cell heap ∷ number_cell needs ∷ [])

-- the least heap that breaks the claim, or how many known nim-values would decide it
abbrev pub claim_of : Code → PeriodRow → PeriodStatus → Text
claim_of c p of_claim.Proved = claim_by c p (codes "proved") None None
claim_of c p (of_claim.Refuted place) = claim_by c p (codes "refuted") (Some place) None
claim_of c p (of_claim.Pending needs) = claim_by c p (codes "pending") None (Some needs)

abbrev pub claim_row : Code → PeriodRow → Text
claim_row c p = claim_of c p p.status

-- ---- a game, with its nim-values (code, heap, value)

abbrev pub game_rows : GameSheet → Text
game_rows g = concat (
    game_row g.code (length g.values) (period_of g) ∷ values_row g.code g.values
    ∷ flat_map (block_row g.code) g.blocks ∷ flat_map (claim_row g.code) g.periods ∷ [])

-- ---- operations: place, author, number, kind, code, said

abbrev pub kind_name : Body → Text
kind_name (kind.Block b) = codes "block"
kind_name (kind.Period p) = codes "period"
kind_name (kind.Note n) = codes "note"
kind_name (kind.Removal r) = codes "removal"

abbrev pub said_row : Dot → Text → Option Code → Text → Text
said_row d name code said =
    row (codes "operations") (null ∷ decimal d.author ∷ decimal d.number ∷ literal name ∷ code_cell code ∷ literal said ∷ [])

-- what the operation says is what the log has
abbrev pub operation_row : Operation → Text
operation_row o = said_row o.dot (kind_name o.body) (game_of_body o.body) (said_text o.body)

-- ---- notes: place, author, number, name, text

abbrev pub noted_row : Dot → Note → Text
noted_row d n = row (codes "notes") (null ∷ decimal d.author ∷ decimal d.number ∷ literal n.name ∷ literal n.text ∷ [])

-- what is no note, as no live note is, has no row
abbrev pub note_row : Operation → Text
note_row o = elim o.body [ kind.Block b ↦ [] | kind.Period p ↦ [] | kind.Note n ↦ noted_row o.dot n | kind.Removal r ↦ [] ]

-- ---- forks: author, number, contents

abbrev pub fork_row : Fork → Text
fork_row f = row (codes "forks") (decimal f.dot.author ∷ decimal f.dot.number ∷ decimal f.contents ∷ [])

-- ---- the whole

abbrev pub authors_part : Sheet → Text
authors_part s = flat_map author_row s.authors

abbrev pub games_part : Sheet → Text
games_part s = flat_map game_rows s.games

-- each operation, each live note, and each dot with several contents
abbrev pub said_part : List Operation → Text
said_part ops = concat (flat_map operation_row ops ∷ flat_map note_row (notes_of ops) ∷ flat_map fork_row (forks_of ops) ∷ [])

-- a table after another, so that a row stands behind those that it refers to
abbrev pub script : List Operation → Text
script ops = concat (opening ∷ authors_part (sheet ops) ∷ games_part (sheet ops) ∷ said_part ops ∷ ending ∷ [])
