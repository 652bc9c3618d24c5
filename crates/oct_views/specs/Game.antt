-- What HTML shows of one game.
use Rattle.std.specs.Prelude.{ℕ, ◌+◌, ◌==◌, slice_get, Bool, true, false, not, List, [], ◌∷◌, codes, length, Option, Some, None, if◌then◌else◌}
use Rattle.std.specs.List.{concat, flat_map}
use Rattle.std.specs.Fmt.{decimal}
use Rattle.oct_code.specs.Code.{Code}
use Rattle.oct_code.specs.CodeText.{code_text}
use Rattle.oct_ops.specs.Body.{Operation}
use Rattle.oct_ops.specs.Operation.{Dot, Period}
use Rattle.oct_text.specs.Words.{Text, dot_text}
use Rattle.oct_mex.specs.declared.period.SeenPeriod.{SeenPeriod}
use Rattle.oct_pages.specs.declared.statuses.BlockRow.{BlockRow}
use Rattle.oct_pages.specs.declared.statuses.PeriodRow.{PeriodRow}
use Rattle.oct_period.specs.declared.status.PeriodStatus.{PeriodStatus}
use Rattle.oct_period.specs.declared.status.PeriodStatus.TheVariants as of_claim
use Rattle.oct_verify.specs.declared.status.Status.{Status}
use Rattle.oct_verify.specs.declared.status.Status.TheVariants as of_block
use Rattle.oct_text.specs.Escape.{escaped, name_beside}
use Rattle.oct_overview.specs.Line.{claimed_in}
use Rattle.oct_said.specs.Dots.{is_withdrawn}
use Rattle.oct_said.specs.Noting.{said_of}
use Rattle.oct_said.specs.declared.noting.LongPeriod.{LongPeriod}
use Rattle.oct_sheet.specs.Names.{author_name}
use Rattle.oct_sheet.specs.Sheet.{GameSheet}
use Rattle.oct_tables.specs.Tables.{table}
use Rattle.oct_plot.specs.Sentence.{sentence}
use Rattle.oct_tables.specs.Values.{values_tables}
use Rattle.oct_text.specs.declared.shown.Shown.{Shown}
use Rattle.oct_views.specs.declared.standing.Standing.{Standing}
use Rattle.oct_views.specs.declared.standing.Standing.TheVariants as standing

-- ---- blocks

-- the name of the author of an operation, behind its dot
abbrev pub name_of_author : (ℕ → Text) → Dot → Text
name_of_author names d = name_beside (names d.author)

-- whether what has this dot is withdrawn by these notes, or is not, as a table wants it
abbrev pub has_standing : List Operation → Standing → Dot → Bool
has_standing notes standing.Stands d = not (is_withdrawn notes d)
has_standing notes standing.Withdrawn d = is_withdrawn notes d

-- what stands behind a status
abbrev pub withdrawn_word : Bool → Text
withdrawn_word true = codes ", withdrawn"
withdrawn_word false = []

abbrev pub refutation_row : List Operation → Dot → ℕ → ℕ → ℕ → Text
refutation_row notes d heap claimed truth = concat (
    codes "<tr><th scope=\"row\">" ∷ dot_text d ∷ name_of_author (author_name notes) d ∷ codes "</th><td>" ∷ decimal heap ∷ codes "</td><td>" ∷ decimal claimed
    ∷ codes "</td><td>" ∷ decimal truth ∷ codes "</td></tr>\n" ∷ [])

-- the row of a block among those that are refuted
abbrev pub refuted_row : List Operation → Standing → Dot → Status → Text
refuted_row notes which d of_block.Proved = []
refuted_row notes which d (of_block.Refuted heap claimed truth) = if has_standing notes which d then refutation_row notes d heap claimed truth else []
refuted_row notes which d of_block.Pending = []

-- of those that are not withdrawn, and of those that are
abbrev pub refutations_table : List Operation → Text → Standing → List BlockRow → Text
refutations_table notes caption which blocks = table caption (codes "block" ∷ codes "heap" ∷ codes "claimed value" ∷ codes "true value" ∷ [])
    (flat_map (λ r. refuted_row notes which r.dot r.status) blocks)

abbrev pub refutations_tables : List Operation → List BlockRow → Text
refutations_tables notes blocks = concat (
    refutations_table notes (codes "Refuted blocks") standing.Stands blocks ∷ refutations_table notes (codes "Refuted blocks, withdrawn") standing.Withdrawn blocks ∷ [])

abbrev pub status_word : Status → Text
status_word of_block.Proved = codes "proved"
status_word (of_block.Refuted heap claimed truth) = codes "refuted"
status_word of_block.Pending = codes "pending"

abbrev pub block_row : List Operation → BlockRow → Text
block_row notes r = concat (
    codes "<tr><th scope=\"row\">" ∷ dot_text r.dot ∷ name_of_author (author_name notes) r.dot ∷ codes "</th><td>" ∷ decimal r.start ∷ codes "</td><td>" ∷ decimal r.count
    ∷ codes "</td><td>" ∷ status_word r.status ∷ withdrawn_word (is_withdrawn notes r.dot) ∷ codes "</td></tr>\n" ∷ [])

abbrev pub blocks_table : List Operation → List BlockRow → Text
blocks_table notes blocks = table (codes "Blocks") (codes "block" ∷ codes "first heap" ∷ codes "values" ∷ codes "status" ∷ []) (flat_map (block_row notes) blocks)

-- ---- period claims

-- the nim-values of the heap at which a claim breaks and of the one that is a period larger, which are known
abbrev pub both_values : Option ℕ → Option ℕ → ℕ → Text
both_values (Some value) (Some other) later = concat (codes ": value " ∷ decimal value ∷ codes ", at " ∷ decimal later ∷ codes " value " ∷ decimal other ∷ [])
both_values (Some value) None later = []
both_values None other later = []

abbrev pub broken_at : ℕ → Text
broken_at heap = concat (codes "refuted at " ∷ decimal heap ∷ [])

-- the heap at which a claim of this period breaks, and both values
abbrev pub broken_words : List ℕ → ℕ → ℕ → Text
broken_words values period heap = concat (broken_at heap ∷ both_values (slice_get values heap) (slice_get values (heap + period)) (heap + period) ∷ [])

-- of a claim of this period, where these nim-values are known
abbrev pub period_status : List ℕ → ℕ → PeriodStatus → Text
period_status values period of_claim.Proved = codes "proved"
period_status values period (of_claim.Refuted heap) = broken_words values period heap
period_status values period (of_claim.Pending count) = concat (codes "pending, needs " ∷ decimal count ∷ [])

abbrev pub period_cells : List Operation → Dot → Period → Text
period_cells notes d p = concat (
    codes "<tr><th scope=\"row\">" ∷ dot_text d ∷ name_of_author (author_name notes) d ∷ codes "</th><td>" ∷ decimal p.start ∷ codes "</td><td>" ∷ decimal p.period
    ∷ codes "</td><td>" ∷ [])

abbrev pub period_end : Bool → Text
period_end withdrawn = concat (withdrawn_word withdrawn ∷ codes "</td></tr>\n" ∷ [])

abbrev pub period_row : List Operation → List ℕ → PeriodRow → Text
period_row notes values r = concat (period_cells notes r.dot r.period ∷ period_status values r.period.period r.status ∷ period_end (is_withdrawn notes r.dot) ∷ [])

abbrev pub period_columns : List Text
period_columns = codes "claim" ∷ codes "start" ∷ codes "period" ∷ codes "status" ∷ []

abbrev pub periods_table : List Operation → List ℕ → List PeriodRow → Text
periods_table notes values periods = table (codes "Period claims") period_columns (flat_map (period_row notes values) periods)

-- the row of a claim among those that are refuted
abbrev pub broken_row : List Operation → List ℕ → Standing → PeriodRow → PeriodStatus → Text
broken_row notes values which r of_claim.Proved = []
broken_row notes values which r (of_claim.Refuted heap) = if has_standing notes which r.dot then period_row notes values r else []
broken_row notes values which r (of_claim.Pending count) = []

-- of those that are not withdrawn, and of those that are
abbrev pub broken_table : List Operation → List ℕ → Text → Standing → List PeriodRow → Text
broken_table notes values caption which periods = table caption period_columns (flat_map (λ r. broken_row notes values which r r.status) periods)

abbrev pub broken_tables : List Operation → List ℕ → List PeriodRow → Text
broken_tables notes values periods = concat (
    broken_table notes values (codes "Refuted period claims") standing.Stands periods
    ∷ broken_table notes values (codes "Refuted period claims, withdrawn") standing.Withdrawn periods ∷ [])

-- ---- long periods that somebody says

abbrev pub in_parentheses : Text → Text
in_parentheses name = if length name == 0 then [] else concat (codes " (" ∷ escaped name ∷ codes ")" ∷ [])

-- the period, from which heap on it is said to hold, and who says so
abbrev pub period_said : LongPeriod → Text
period_said long = concat (
    codes "said: period " ∷ decimal long.seen.period ∷ codes " from " ∷ decimal long.seen.start ∷ codes ", by " ∷ decimal long.author ∷ [])

abbrev pub said_words : List Operation → LongPeriod → Text
said_words notes long = concat (period_said long ∷ in_parentheses (author_name notes long.author) ∷ [])

-- between a text and another
abbrev pub said_between : Text → Text → List Operation → LongPeriod → Text
said_between before behind notes long = concat (before ∷ said_words notes long ∷ behind ∷ [])

-- a paragraph for each that is said of the game
abbrev pub said_paragraphs : List Operation → Code → Text
said_paragraphs notes c = flat_map (said_between (codes "<p>") (codes "</p>\n") notes) (said_of notes c)

-- and a line in its row of the table of games
abbrev pub said_in_row : List Operation → Code → Text
said_in_row notes c = flat_map (said_between (codes "<br/>") [] notes) (said_of notes c)

-- ---- a game

-- that no claim has just the period that is proved
abbrev pub unclaimed : List PeriodRow → Option Period → Text
unclaimed rows None = []
unclaimed rows (Some p) = if claimed_in rows p then [] else codes "<p>No claim says so.</p>\n"

-- what is proved of all heaps, in words
abbrev pub told : List PeriodRow → List ℕ → Option Period → Text
told rows values proved = concat (codes "<p>" ∷ sentence values proved ∷ codes "</p>\n" ∷ unclaimed rows proved ∷ [])

-- the place of what is refuted, which a table of games links to
abbrev pub refuted_head : Code → Text
refuted_head c = concat (codes "<div id=\"refuted-" ∷ code_text c ∷ codes "\">\n" ∷ [])

abbrev pub refuted_part : List Operation → GameSheet → Text
refuted_part notes g = concat (refuted_head g.code ∷ refutations_tables notes g.blocks ∷ broken_tables notes g.values g.periods ∷ codes "</div>\n" ∷ [])

-- the period that a search of this program proved
abbrev pub found_paragraph : SeenPeriod → Text
found_paragraph seen = concat (
    codes "<p>Proved by this program: from heap " ∷ decimal seen.start ∷ codes " on the nim-values repeat with period " ∷ decimal seen.period ∷ codes ", for ever.</p>\n" ∷ [])

-- in place of what the known values prove, where there is one
abbrev pub told_or_found : Option SeenPeriod → GameSheet → Text
told_or_found None g = told g.periods g.values g.proved
told_or_found (Some seen) g = found_paragraph seen

-- what is proved of all heaps, and what somebody says of them
abbrev pub told_and_said : Option SeenPeriod → List Operation → GameSheet → Text
told_and_said found notes g = concat (told_or_found found g ∷ said_paragraphs notes g.code ∷ [])

-- with what these notes say: the names of authors, what is withdrawn, and long periods
abbrev pub game_tables : Option SeenPeriod → List Operation → Shown → GameSheet → Text
game_tables found notes how g = concat (
    told_and_said found notes g ∷ values_tables how g.values g.proved ∷ refuted_part notes g ∷ blocks_table notes g.blocks ∷ periods_table notes g.values g.periods ∷ [])
