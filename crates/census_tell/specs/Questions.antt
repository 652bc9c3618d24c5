-- What is asked of one game, and in which view all that is known is shown.
use Rattle.std.specs.Prelude.{◌≡◌, Option, Result, Ok}
use Rattle.std.specs.Io.KnownBytes.{Appends}
use Rattle.oct_code.specs.Code.{Code}
use Rattle.oct_delta.specs.Text.{Bytes}
use Rattle.oct_ops.specs.Operations.{Operations, listed}
use Rattle.oct_text.specs.Words.{Text}
use Rattle.oct_pages.specs.Catalogue.{catalogue_among}
use Rattle.oct_period.specs.GameContent.{GameContent}
use Rattle.census_tell.specs.Asking.{value_in, value_of, value_text}
use Rattle.census_state.specs.Codes.{code_of}
use Rattle.census_tell.specs.Moving.{move_in, move_of, move_text}
use Rattle.census_state.specs.Replies.{Answer, text_alone}
use Rattle.census_state.specs.Steps.{◌>>=◌}
use Rattle.census_state.specs.Stored.{loaded}
use Rattle.census_tell.specs.Viewing.{bfile_in, bfile_of, json_among, plot_in, plot_of, report_among}
use Rattle.census_tell.specs.declared.asking.Question as question
use Rattle.census_state.specs.declared.fault.Fault.{Fault}
use Rattle.census_state.specs.declared.view.View as view

abbrev pub told : question.Question → Operations → Code → Text
told (question.TheVariants.Value heaps form) ops c = value_text form c heaps.now (value_in ops c heaps.now)
told (question.TheVariants.Move heaps form) ops c = move_text form heaps.now (move_in ops c heaps.now)
told question.TheVariants.Bfile ops c = bfile_in ops c
told question.TheVariants.Plot ops c = plot_in ops c

-- the same, by the blocks and claims of the game
abbrev pub told_of : question.Question → GameContent → Text
told_of (question.TheVariants.Value heaps form) game = value_text form game.code heaps.now (value_of game heaps.now)
told_of (question.TheVariants.Move heaps form) game = move_text form heaps.now (move_of game heaps.now)
told_of question.TheVariants.Bfile game = bfile_of game
told_of question.TheVariants.Plot game = plot_of game

abbrev pub answered : question.Question → Bytes → Bytes → Result Answer Fault
answered asked state word = do
  replica ← loaded state
  code ← code_of word
  Ok (text_alone (told asked replica.ops code))

-- what is known of a part, with the authors of the whole
abbrev pub shown_among : view.View → Operations → Operations → Text
shown_among view.TheVariants.Catalogue part whole = catalogue_among (listed part) (listed whole)
shown_among view.TheVariants.Json part whole = json_among part whole
shown_among (view.TheVariants.Report how) part whole = report_among how part whole

-- and of all
abbrev pub shown_in : view.View → Operations → Text
shown_in which ops = shown_among which ops ops

abbrev pub shown : view.View → Bytes → Result Answer Fault
shown which state = loaded state >>= λ replica. Ok (text_alone (shown_in which replica.ops))

-- the answer has a text alone, and this is written
abbrev pub Written : Option Bytes → Option Bytes → Result Answer Fault → Type 0
Written old new answer = (text : Text) × (answer ≡ Ok (text_alone text)) × Appends old new text
