-- Games as the rows of a table: comma-separated values for a spreadsheet, and LaTeX for a paper.
use Rattle.std.specs.Prelude.{Bool, true, false, [], ◌∷◌, ◌++◌, codes, Option, Some, None}
use Rattle.std.specs.List.{concat}
use Rattle.std.specs.Fmt.{decimal}
use Rattle.oct_code.specs.CodeText.{code_text}
use Rattle.oct_text.specs.Words.{Text}
use Rattle.oct_sheet.specs.declared.summary.GameTally.{GameTally}
use Rattle.oct_overview.specs.declared.line.GameLine.{GameLine}
use Rattle.oct_overview.specs.declared.line.LeastPeriod.{LeastPeriod}

-- ---- comma-separated values

-- a carriage return and a line feed
abbrev pub csv_end : Text
csv_end = 13 ∷ 10 ∷ []

-- the columns
abbrev pub csv_head : Text
csv_head = codes "code,known,period,start,claimed,blocks_proved,blocks_refuted,blocks_pending,claims_proved,claims_refuted,claims_pending" ++ csv_end

abbrev pub truth : Bool → Text
truth true = codes "true"
truth false = codes "false"

-- the period, its start, and whether a claim says just this
abbrev pub csv_period : Option LeastPeriod → Text
csv_period None = codes ",,,"
csv_period (Some least) = concat (codes "," ∷ decimal least.period.period ∷ codes "," ∷ decimal least.period.start ∷ codes "," ∷ truth least.is_claimed ∷ [])

-- how many are proved, refuted and pending
abbrev pub csv_tally : GameTally → Text
csv_tally tally = concat (codes "," ∷ decimal tally.proved ∷ codes "," ∷ decimal tally.refuted ∷ codes "," ∷ decimal tally.pending ∷ [])

abbrev pub csv_game : GameLine → Text
csv_game line = concat (code_text line.summary.code ∷ codes "," ∷ decimal line.summary.known ∷ [])

-- a game: no field has a comma, a quotation mark or the end of a line, so none is quoted
abbrev pub csv_row : GameLine → Text
csv_row line = concat (csv_game line ∷ csv_period line.least ∷ csv_tally line.summary.blocks ∷ csv_tally line.summary.claims ∷ csv_end ∷ [])

-- ---- a table of LaTeX

abbrev pub latex_head : Text
latex_head = codes "\\begin{tabular}{lrrr}\nCode & Known & Period & Start \\\\\n\\hline\n"

abbrev pub latex_foot : Text
latex_foot = codes "\\end{tabular}\n"

-- the period and its start
abbrev pub latex_period : Option LeastPeriod → Text
latex_period None = codes " & -- & --"
latex_period (Some least) = concat (codes " & " ∷ decimal least.period.period ∷ codes " & " ∷ decimal least.period.start ∷ [])

abbrev pub latex_game : GameLine → Text
latex_game line = concat (code_text line.summary.code ∷ codes " & " ∷ decimal line.summary.known ∷ [])

abbrev pub latex_row : GameLine → Text
latex_row line = concat (latex_game line ∷ latex_period line.least ∷ codes " \\\\\n" ∷ [])
