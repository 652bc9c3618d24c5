-- What is told of a game on one line, and of each block and claim that is refuted: in words, or as an object of JSON.
use Rattle.std.specs.Prelude.{ℕ, Bool, true, false, ◌+◌, ◌==◌, if◌then◌else◌, List, [], ◌∷◌, ◌++◌, codes, length, slice_get, Option, Some, None}
use Rattle.std.specs.List.{concat, flat_map}
use Rattle.std.specs.Fmt.{decimal}
use Rattle.oct_code.specs.Code.{Code}
use Rattle.oct_code.specs.CodeText.{code_text}
use Rattle.oct_ops.specs.Body.{Operation}
use Rattle.oct_ops.specs.Operation.{Dot}
use Rattle.oct_text.specs.Words.{Text, dot_text}
use Rattle.oct_pages.specs.Sheet.{GameSheet, game_sheet}
use Rattle.oct_pages.specs.declared.statuses.BlockRow.{BlockRow}
use Rattle.oct_pages.specs.declared.statuses.PeriodRow.{PeriodRow}
use Rattle.oct_period.specs.declared.status.PeriodStatus.TheVariants as of_claim
use Rattle.oct_verify.specs.declared.status.Status.TheVariants as of_block
use Rattle.oct_text.specs.Escape.{quoted}
use Rattle.oct_said.specs.Dots.{is_withdrawn}
use Rattle.oct_sheet.specs.Names.{author_name}
use Rattle.oct_sheet.specs.Sheet.{remarks_of}
use Rattle.oct_sheet.specs.declared.summary.GameTally.{GameTally}
use Rattle.oct_text.specs.declared.form.Form.{Form}
use Rattle.oct_text.specs.declared.form.Form.TheVariants.{Lines, Json}
use Rattle.oct_overview.specs.Line.{is_selected, line_of}
use Rattle.oct_overview.specs.Said.{called_words, name_words, said_words, word}
use Rattle.oct_overview.specs.Tables.{csv_head, csv_row, latex_foot, latex_head, latex_row}
use Rattle.oct_overview.specs.declared.line.GameLine.{GameLine}
use Rattle.oct_overview.specs.declared.line.LeastPeriod.{LeastPeriod}
use Rattle.oct_overview.specs.declared.listing.Condition.{Condition}
use Rattle.oct_overview.specs.declared.listing.Listing.{Listing}
use Rattle.oct_overview.specs.declared.listing.Listing.TheVariants.{Games, Refuted, Csv, Latex}

-- ---- the line of a game

-- the game, and how many heaps are known
abbrev pub known_words : Form → Code → ℕ → Text
known_words form c known = concat (
    word form [] (codes "{\"code\":\"") ∷ code_text c
    ∷ word form (codes " known ") (codes "\",\"known\":") ∷ decimal known ∷ [])

-- what stands behind a period: nothing where a claim says just this
abbrev pub claim_word : Form → Bool → Text
claim_word form true = []
claim_word form false = word form (codes " unclaimed") (codes ",\"claimed\":false")

-- the least period that is proved, the least heap from which on it is, and whether nobody claimed it
abbrev pub period_words : Form → Option LeastPeriod → Text
period_words form (Some least) = concat (
    word form (codes " period ") (codes ",\"period\":") ∷ decimal least.period.period ∷ word form (codes " from ") (codes ",\"from\":") ∷ decimal least.period.start
    ∷ claim_word form least.is_claimed ∷ [])
period_words form None = word form (codes " no period") (codes ",\"period\":null")

-- how many are withdrawn, where some are
abbrev pub withdrawn_count : Form → ℕ → Text
withdrawn_count form withdrawn = if withdrawn == 0 then [] else concat (word form (codes " withdrawn ") (codes ",\"withdrawn\":") ∷ decimal withdrawn ∷ [])

-- how many are proved, how many are refuted and stand or are withdrawn, and how many are pending
abbrev pub proved_words : Form → Text → GameTally → Text
proved_words form front tally = concat (front ∷ decimal tally.proved ∷ word form (codes " refuted ") (codes ",\"refuted\":") ∷ decimal tally.refuted ∷ [])

abbrev pub pending_words : Form → ℕ → Text
pending_words form pending = concat (word form (codes " pending ") (codes ",\"pending\":") ∷ decimal pending ∷ [])

abbrev pub tally_words : Form → Text → GameTally → Text
tally_words form front tally = concat (proved_words form front tally ∷ withdrawn_count form tally.withdrawn ∷ pending_words form tally.pending ∷ [])

abbrev pub block_words : Form → GameTally → Text
block_words form tally = tally_words form (word form (codes " blocks proved ") (codes ",\"blocks\":{\"proved\":")) tally

abbrev pub claim_words : Form → GameTally → Text
claim_words form tally = tally_words form (word form (codes " claims proved ") (codes "},\"claims\":{\"proved\":")) tally

abbrev pub line_text : Form → List Operation → GameLine → Text
line_text form notes line = concat (
    known_words form line.summary.code line.summary.known ∷ period_words form line.least ∷ block_words form line.summary.blocks
    ∷ claim_words form line.summary.claims ∷ said_words form notes line.summary.code ∷ [])

-- ---- the lines of what is refuted

-- that it is withdrawn, where it is
abbrev pub withdrawn_word : Form → Bool → Text
withdrawn_word form true = word form (codes " withdrawn") (codes ",\"withdrawn\":true")
withdrawn_word form false = []

-- whether it is withdrawn, the name, and the end of the line
abbrev pub line_end : Form → List Operation → Dot → Text
line_end form notes d = concat (withdrawn_word form (is_withdrawn notes d) ∷ name_words form (author_name notes d.author) ∷ word form (codes "\n") (codes "}\n") ∷ [])

-- a block of a game, and at which heap it is wrong, what it claims there, and what is true
abbrev pub wrong_block : Form → Code → BlockRow → ℕ → ℕ → ℕ → Text
wrong_block form c row heap claimed truth = concat (
    word form [] (codes "{\"code\":\"") ∷ code_text c ∷ word form (codes " block ") (codes "\",\"block\":\"") ∷ dot_text row.dot
    ∷ word form (codes " at ") (codes "\",\"at\":") ∷ decimal row.start ∷ word form (codes " count ") (codes ",\"count\":") ∷ decimal row.count
    ∷ word form (codes " refuted at ") (codes ",\"refuted\":") ∷ decimal heap ∷ word form (codes " claimed ") (codes ",\"claimed\":") ∷ decimal claimed
    ∷ word form (codes " true ") (codes ",\"true\":") ∷ decimal truth ∷ [])

abbrev pub refuted_block : Form → List Operation → Code → BlockRow → ℕ → ℕ → ℕ → Text
refuted_block form notes c row heap claimed truth = concat (wrong_block form c row heap claimed truth ∷ line_end form notes row.dot ∷ [])

abbrev pub block_refutation : Form → List Operation → Code → BlockRow → Text
block_refutation form notes c row =
    elim row.status [ of_block.Proved ↦ [] | of_block.Refuted heap claimed truth ↦ refuted_block form notes c row heap claimed truth | of_block.Pending ↦ [] ]

-- a claim of a game, and at which heap it breaks first
abbrev pub wrong_claim : Form → Code → PeriodRow → ℕ → Text
wrong_claim form c row heap = concat (
    word form [] (codes "{\"code\":\"") ∷ code_text c ∷ word form (codes " period ") (codes "\",\"claim\":\"") ∷ dot_text row.dot
    ∷ word form (codes " from ") (codes "\",\"from\":") ∷ decimal row.period.start ∷ word form (codes " by ") (codes ",\"by\":") ∷ decimal row.period.period
    ∷ word form (codes " refuted at ") (codes ",\"refuted\":") ∷ decimal heap ∷ [])

-- both nim-values, that of the heap and that of one period later, which are known wherever they differ
abbrev pub both_values : Form → Option ℕ → Option ℕ → ℕ → Text
both_values form (Some value) (Some other) later = concat (
    word form (codes " value ") (codes ",\"value\":") ∷ decimal value ∷ word form (codes " at ") (codes ",\"later\":") ∷ decimal later
    ∷ word form (codes " value ") (codes ",\"later_value\":") ∷ decimal other ∷ [])
both_values form (Some value) None later = []
both_values form None other later = []

abbrev pub refuted_claim : Form → List Operation → Code → List ℕ → PeriodRow → ℕ → Text
refuted_claim form notes c values row heap =
    let later = heap + row.period.period in
    concat (wrong_claim form c row heap ∷ both_values form (slice_get values heap) (slice_get values later) later ∷ line_end form notes row.dot ∷ [])

abbrev pub claim_refutation : Form → List Operation → Code → List ℕ → PeriodRow → Text
claim_refutation form notes c values row =
    elim row.status [ of_claim.Proved ↦ [] | of_claim.Refuted heap ↦ refuted_claim form notes c values row heap | of_claim.Pending needs ↦ [] ]

abbrev pub refutations : Form → List Operation → GameSheet → Text
refutations form notes g = flat_map (block_refutation form notes g.code) g.blocks ++ flat_map (claim_refutation form notes g.code g.values) g.periods

-- ---- what is told of a game that has this line, with what these notes say

abbrev pub told : Listing → List Operation → GameSheet → GameLine → Text
told (Games form) notes g line = line_text form notes line
told (Refuted form) notes g line = refutations form notes g
told Csv notes g line = csv_row line
told Latex notes g line = latex_row line

-- and nothing where a condition does not hold
abbrev pub told_if : List Condition → Listing → List Operation → GameSheet → Text
told_if which listing notes g = if is_selected which (line_of notes g) then told listing notes g (line_of notes g) else []

-- ---- what is told of games

-- what stands before all games, and behind them
abbrev pub head : Listing → Text
head (Games form) = []
head (Refuted form) = []
head Csv = csv_head
head Latex = latex_head

abbrev pub foot : Listing → Text
foot (Games form) = []
foot (Refuted form) = []
foot Csv = []
foot Latex = latex_foot

-- what is told of a game among these operations
abbrev pub told_of : Listing → List Operation → Code → Text
told_of listing ops c = told listing (remarks_of ops) (game_sheet ops c) (line_of (remarks_of ops) (game_sheet ops c))

abbrev pub overview : Listing → List Operation → List Code → Text
overview listing ops games = head listing ++ flat_map (told_of listing ops) games ++ foot listing
