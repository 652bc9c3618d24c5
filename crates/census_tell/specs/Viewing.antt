-- What the commands give that show a census in other forms than the catalogue.
use Rattle.std.specs.Prelude.{ℕ, ◌-◌, ◌++◌, List, length, min, nat_le, nat_lt, if◌then◌else◌, codes, Option, Some, None, Result, Ok, Err}
use Rattle.oct_code.specs.Code.{Code}
use Rattle.oct_delta.specs.Text.{Bytes}
use Rattle.oct_mex.specs.NimValues.{nim_values}
use Rattle.oct_ops.specs.Operation.{Period}
use Rattle.oct_ops.specs.Operations.{Operations, listed}
use Rattle.oct_text.specs.Words.{Text}
use Rattle.oct_overview.specs.Line.{least_in}
use Rattle.oct_period.specs.Found.{found_period}
use Rattle.oct_period.specs.GameContent.{GameContent}
use Rattle.oct_verify.specs.Filing.{blocks_in}
use Rattle.oct_verify.specs.Known.{known}
use Rattle.oct_bfile.specs.Bfile.{bfile_text}
use Rattle.oct_json.specs.Json.{document}
use Rattle.oct_plot.specs.Plot as picture
use Rattle.oct_sql.specs.Script.{script}
use Rattle.oct_views.specs.Report as html
use Rattle.oct_sheet.specs.Sheet.{game_sheet, sheet_among}
use Rattle.oct_text.specs.declared.shown.Shown.{Shown}
use Rattle.serde_json.specs.Written.{compact_text}
use Rattle.census_state.specs.Codes.{code_of}
use Rattle.census_state.specs.Replies.{Answer, text_alone}
use Rattle.census_state.specs.Steps.{◌>>=◌}
use Rattle.census_state.specs.Stored.{loaded}
use Rattle.census_state.specs.declared.fault.Fault.{Fault}
use Rattle.census_state.specs.declared.fault.Fault.TheVariants.{Number}

-- the known nim-values of a game as a b-file
abbrev pub bfile_in : Operations → Code → Text
bfile_in ops c = let game = game_sheet (listed ops) c in bfile_text game.values

-- and as a picture, with the least period that they prove, whether or not somebody claimed it
abbrev pub plot_in : Operations → Code → Text
plot_in ops c = let game = game_sheet (listed ops) c in picture.plot c game.values (least_in game)

-- the same, by the blocks and claims of the game
abbrev pub known_values : GameContent → List ℕ
known_values game = nim_values game.code (known (blocks_in game.blocks))

abbrev pub bfile_of : GameContent → Text
bfile_of game = bfile_text (known_values game)

abbrev pub plot_of : GameContent → Text
plot_of game = picture.plot game.code (known_values game) (found_period game.code (blocks_in game.blocks))

-- the picture of the heaps from one to another, up to the last known one; none where the first of them is not known
abbrev pub drawn : Code → List ℕ → ℕ → ℕ → Option Period → Result Text Fault
drawn c values from to proved = if nat_le (length values) from then Err Number else Ok (picture.plot_between c values from (min to (length values - 1)) proved)

abbrev pub heaps_in : ℕ → ℕ → Operations → Code → Result Text Fault
heaps_in from to ops c = let game = game_sheet (listed ops) c in drawn c game.values from to (least_in game)

-- the same, by the blocks and claims of the game
abbrev pub heaps_of : ℕ → ℕ → GameContent → Result Text Fault
heaps_of from to game = drawn game.code (known_values game) from to (found_period game.code (blocks_in game.blocks))

-- what is known of a part as a JSON document, on one line, with the authors of the whole
abbrev pub json_among : Operations → Operations → Text
json_among part whole = compact_text (document (sheet_among (listed part) (listed whole))) ++ codes "\n"

-- all that is known
abbrev pub json_in : Operations → Text
json_in ops = json_among ops ops

-- and as a report
abbrev pub report_among : Shown → Operations → Operations → Text
report_among how part whole = html.report how (sheet_among (listed part) (listed whole))

abbrev pub report_in : Shown → Operations → Text
report_in how ops = report_among how ops ops

-- ---- the commands

abbrev pub bfile : Bytes → Bytes → Result Answer Fault
bfile state word = do
  replica ← loaded state
  code ← code_of word
  Ok (text_alone (bfile_in replica.ops code))

abbrev pub plot : Bytes → Bytes → Result Answer Fault
plot state word = do
  replica ← loaded state
  code ← code_of word
  Ok (text_alone (plot_in replica.ops code))

abbrev pub some_heaps : ℕ → ℕ → Bytes → Bytes → Result Text Fault
some_heaps from to state word = do
  replica ← loaded state
  code ← code_of word
  heaps_in from to replica.ops code

-- no heap stands from one to another that is before it
abbrev pub heaps_fault : ℕ → ℕ → Option Fault
heaps_fault from to = if nat_lt to from then Some Number else None

abbrev pub plot_heaps : ℕ → ℕ → Bytes → Bytes → Result Text Fault
plot_heaps from to state word = if nat_lt to from then Err Number else some_heaps from to state word

abbrev pub json : Bytes → Result Answer Fault
json state = loaded state >>= λ replica. Ok (text_alone (json_in replica.ops))

abbrev pub report : Bytes → Shown → Result Answer Fault
report state how = loaded state >>= λ replica. Ok (text_alone (report_in how replica.ops))

-- the script that makes a database of all that is known
abbrev pub sql_script : Bytes → Result Answer Fault
sql_script state = loaded state >>= λ replica. Ok (text_alone (script (listed replica.ops)))
