-- What the commands give that leave a state as it is.
use Rattle.std.specs.Prelude.{ℕ, ◌==◌, ◌++◌, Bool, true, false, not, List, [], codes, Result, Ok, Err, if◌then◌else◌}
use Rattle.oct_code.specs.Code.{Code}
use Rattle.oct_delta.specs.Text.{Bytes}
use Rattle.oct_ops.specs.Body.{Operation}
use Rattle.oct_ops.specs.Operations.{Operations, listed}
use Rattle.oct_text.specs.Words.{Text}
use Rattle.oct_pages.specs.Catalogue.{catalogue, has_page}
use Rattle.oct_pages.specs.Catalogue as catalogue
use Rattle.oct_period.specs.Claims.{claims_in}
use Rattle.oct_period.specs.GameContent.{GameContent}
use Rattle.oct_period.specs.Periods.{position_value}
use Rattle.oct_period.specs.Outcomes.{winner}
use Rattle.oct_period.specs.Winning.{wins}
use Rattle.oct_period.specs.declared.winner.Outcome.{Outcome}
use Rattle.oct_period.specs.declared.winner.Outcome.TheVariants as outcome
use Rattle.oct_period.specs.declared.unknown.Unknown.{Unknown}
use Rattle.oct_pages.specs.GamesIn.{content_in}
use Rattle.oct_verify.specs.Filing.{blocks_in}
use Rattle.oct_text.specs.declared.form.Form.{Form}
use Rattle.oct_text.specs.declared.form.Form.TheVariants.{Lines, Json}
use Rattle.census_state.specs.Codes.{code_of}
use Rattle.census_tell.specs.JsonLines.{unknown_object, value_object}
use Rattle.census_state.specs.Lines.{number_line}
use Rattle.census_state.specs.Replies.{Answer, text_alone}
use Rattle.census_state.specs.Steps.{◌>>=◌}
use Rattle.census_state.specs.Stored.{loaded}
use Rattle.census_state.specs.declared.fault.Fault.{Fault}
use Rattle.census_state.specs.declared.fault.Fault.TheVariants.{NoPage}

-- the value of a position, by the blocks and claims of its game
abbrev pub value_of : GameContent → List ℕ → Result ℕ Unknown
value_of game heaps = position_value game.code (blocks_in game.blocks) (claims_in game.claims) heaps

-- by those that the set has of it
abbrev pub value_in : Operations → Code → List ℕ → Result ℕ Unknown
value_in ops c heaps = value_of (content_in ops c) heaps

-- whether the player to move wins
abbrev pub winner_line : Bool → Text
winner_line true = codes "next player wins\n"
winner_line false = codes "next player loses\n"

-- the same of an outcome, and nothing where it is not known
abbrev pub outcome_line : Outcome → Text
outcome_line outcome.NextWins = winner_line true
outcome_line outcome.NextLoses = winner_line false
outcome_line (outcome.Unknown index) = []

-- a value and who wins, in words and numbers or as an object of JSON
abbrev pub known_text : Form → ℕ → Outcome → Text
known_text Lines value outcome = number_line (codes "value ") value ++ outcome_line outcome
known_text Json value outcome = value_object value outcome

-- the place of the first heap whose nim-value is not known
abbrev pub unknown_text : Form → ℕ → Text
unknown_text Lines index = number_line (codes "unknown at ") index
unknown_text Json index = unknown_object index

-- the value and who wins by the moves alone, or the first heap whose nim-value is not known
abbrev pub value_text : Form → Code → List ℕ → Result ℕ Unknown → Text
value_text form c heaps (Ok value) = known_text form value (winner (wins c heaps))
value_text form c heaps (Err unknown) = unknown_text form unknown.index

-- the value and who wins by the value alone, or that heap
abbrev pub position_text : Form → Result ℕ Unknown → Text
position_text form (Ok value) = known_text form value (winner (not (value == 0)))
position_text form (Err unknown) = unknown_text form unknown.index

abbrev pub page_of : List Operation → ℕ → Result Answer Fault
page_of ops number = if has_page ops number then Ok (text_alone (catalogue.page ops number)) else Err NoPage

-- ---- the commands

abbrev pub value : Form → Bytes → Bytes → List ℕ → Result Answer Fault
value form state word heaps = do
  replica ← loaded state
  code ← code_of word
  Ok (text_alone (value_text form code heaps (value_in replica.ops code heaps)))

abbrev pub page : Bytes → ℕ → Result Answer Fault
page state number = loaded state >>= λ replica. page_of (listed replica.ops) number

abbrev pub show : Bytes → Result Answer Fault
show state = loaded state >>= λ replica. Ok (text_alone (catalogue (listed replica.ops)))
