-- The periods that are found among the known nim-values of games.
use Rattle.std.specs.Prelude.{ℕ, List, ◌++◌, codes, Option, Some, None, Result, Ok, if◌then◌else◌}
use Rattle.std.specs.List.{flat_map}
use Rattle.oct_code.specs.Code.{Code}
use Rattle.oct_code.specs.CodeText.{code_text}
use Rattle.oct_delta.specs.Text.{Bytes}
use Rattle.oct_ops.specs.Body as kind
use Rattle.oct_ops.specs.Operation.{Period}
use Rattle.oct_ops.specs.Operations.{Operations}
use Rattle.oct_text.specs.Words.{Text, labelled}
use Rattle.oct_period.specs.Claims.{claims_in, is_claimed}
use Rattle.oct_period.specs.Found.{found_period}
use Rattle.oct_pages.specs.GamesIn.{content_in}
use Rattle.oct_record.specs.Content.{RecordContent}
use Rattle.oct_verify.specs.Filing.{blocks_in}
use Rattle.oct_text.specs.declared.form.Form.{Form}
use Rattle.oct_text.specs.declared.form.Form.TheVariants.{Lines, Json}
use Rattle.census_state.specs.Codes.{codes_of}
use Rattle.census_issue.specs.Extending.{extend_turn, extended, in_turns, known_in}
use Rattle.census_issue.specs.Issuing.{with_body}
use Rattle.census_issue.specs.FoundObjects.{found_object}
use Rattle.census_state.specs.PeriodTexts.{found_text, vain_line}
use Rattle.census_state.specs.Replies.{Answer, text_alone}
use Rattle.census_state.specs.Steps.{◌>>=◌}
use Rattle.census_state.specs.Stored.{loaded}
use Rattle.census_issue.specs.Turns.{Turn}
use Rattle.census_state.specs.declared.fault.Fault.{Fault}
use Rattle.census_issue.specs.declared.surveying.Aim.{Aim}
use Rattle.census_issue.specs.declared.surveying.Aim.TheVariants.{Extend, Survey}

-- the least period that the known nim-values prove, and of this the least start
abbrev pub found_in : Operations → Code → Option Period
found_in ops c = found_period c (blocks_in (content_in ops c).blocks)

-- what is found, and how many are known
abbrev pub found_line : Code → Option Period → ℕ → Text
found_line c (Some p) known = code_text c ++ found_text p ++ labelled (codes " known ") known ++ codes "\n"
found_line c None known = vain_line c known

-- the same in words and numbers, or as an object of JSON
abbrev pub found_told : Form → Code → Option Period → ℕ → Text
found_told Lines = found_line
found_told Json = found_object

abbrev pub find_line : Form → Operations → Code → Text
find_line form ops c = found_told form c (found_in ops c) (known_in ops c)

-- the replica after its author issued the claim, unless the set has the claim already
abbrev pub with_claim : RecordContent → Option Period → Result RecordContent Fault
with_claim r None = Ok r
with_claim r (Some p) = if is_claimed (claims_in (content_in r.ops p.code).claims) p then Ok r else with_body r (kind.Period p)

-- what is found is told and claimed
abbrev pub surveyed : Form → Code → RecordContent → Result Turn Fault
surveyed form c r = do
  next ← with_claim r (found_in r.ops c)
  Ok (record { replica = next; text = find_line form r.ops c })

abbrev pub survey_turn : Form → ℕ → Code → RecordContent → Result Turn Fault
survey_turn form count c r = extended c count r >>= λ e. surveyed form c e.replica

-- what a game has in its turn
abbrev pub turn_of : Aim → ℕ → Code → RecordContent → Result Turn Fault
turn_of Extend = extend_turn
turn_of (Survey form) = survey_turn form

-- ---- the commands

abbrev pub find : Form → Bytes → List Bytes → Result Answer Fault
find form state words = do
  replica ← loaded state
  games ← codes_of words
  Ok (text_alone (flat_map (find_line form replica.ops) games))

abbrev pub survey : Form → Bytes → ℕ → List Bytes → Result Answer Fault
survey form = in_turns (survey_turn form)
