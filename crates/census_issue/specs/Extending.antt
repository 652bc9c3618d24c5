-- What is known of games after blocks of their next nim-values were issued.
use Rattle.std.specs.Prelude.{◌≡◌, ◌≤◌, ℕ, zero, suc, ◌+◌, ◌-◌, ◌&&◌, nat_le, min, List, [], ◌++◌, codes, Result, Ok, Err, unwrap_or, if◌then◌else◌}
use Rattle.std.specs.Result.{result_ok}
use Rattle.oct_code.specs.Code.{Code}
use Rattle.oct_code.specs.CodeText.{code_text}
use Rattle.oct_code.specs.declared.limits.TheConstants.{LIMIT}
use Rattle.oct_delta.specs.Text.{Bytes}
use Rattle.oct_ops.specs.Body as kind
use Rattle.oct_ops.specs.Operations.{Operations}
use Rattle.oct_ops.specs.declared.limits.TheConstants.{MAX_ITEMS}
use Rattle.oct_text.specs.Words.{Text, labelled}
use Rattle.oct_pages.specs.GamesIn.{content_in}
use Rattle.oct_period.specs.Computing.{next_block}
use Rattle.oct_record.specs.Content.{RecordContent}
use Rattle.oct_verify.specs.Filing.{blocks_in}
use Rattle.oct_verify.specs.Known.{known}
use Rattle.census_state.specs.Codes.{codes_of}
use Rattle.census_issue.specs.Issuing.{with_body}
use Rattle.census_state.specs.Replies.{Answer}
use Rattle.census_state.specs.Steps.{◌>>=◌}
use Rattle.census_state.specs.Stored.{loaded, saved}
use Rattle.census_issue.specs.Turns.{Turn, in_turn, stages}
use Rattle.census_state.specs.declared.fault.Fault.{Fault}
use Rattle.census_state.specs.declared.fault.Fault.TheVariants.{Number}

-- how many nim-values of a game are known
abbrev pub known_in : Operations → Code → ℕ
known_in ops c = known (blocks_in (content_in ops c).blocks)

-- the replica after its author issued the block of so many next nim-values
abbrev pub with_values : RecordContent → Code → ℕ → Result RecordContent Fault
with_values r c count = with_body r (kind.Block (next_block c (blocks_in (content_in r.ops c).blocks) count))

-- a replica, and how many blocks were issued on the way to it
pub record Extended : Type 0 where
  pub replica : RecordContent
  pub issued : ℕ

abbrev pub extended_to : RecordContent → ℕ → Extended
extended_to r issued = record { replica = r; issued = issued }

-- until `count` nim-values are known, and at most so often, the block of the next of them is issued: of those that are
-- wanted, or of 1,024
unfoldable pub extended_by : ℕ → Code → ℕ → RecordContent → ℕ → Result Extended Fault
extended_by zero c count r issued = Ok (extended_to r issued)
extended_by (suc more) c count r issued =
    if nat_le count (known_in r.ops c)
    then Ok (extended_to r issued)
    else (with_values r c (min (count - known_in r.ops c) MAX_ITEMS) >>= λ next. extended_by more c count next (issued + 1))

-- 64 blocks are as many values as a game has places
abbrev pub extended : Code → ℕ → RecordContent → Result Extended Fault
extended c count r = extended_by 64 c count r 0

-- then `count` nim-values are known
abbrev pub ExtendedIsKnown : Type 0
ExtendedIsKnown = (c : Code) (count : ℕ) (r : RecordContent) (e : Extended) → count ≤ LIMIT → extended c count r ≡ Ok e → count ≤ known_in e.replica.ops c

-- how many nim-values are known of a game, and how many blocks were issued
abbrev pub extended_line : Code → ℕ → ℕ → Text
extended_line c known issued = code_text c ++ labelled (codes " known ") known ++ labelled (codes " issued ") issued ++ codes "\n"

abbrev pub extend_turn : ℕ → Code → RecordContent → Result Turn Fault
extend_turn count c r = do
  e ← extended c count r
  Ok (record { replica = e.replica; text = extended_line c (known_in e.replica.ops c) e.issued })

-- a number of nim-values that a game may have
abbrev pub wanted : ℕ → Result ℕ Fault
wanted count = if nat_le 1 count && nat_le count LIMIT then Ok count else Err Number

-- ---- the commands

-- each game has its turn, by the number of nim-values that are wanted of it
abbrev pub in_turns : (ℕ → Code → RecordContent → Result Turn Fault) → Bytes → ℕ → List Bytes → Result Answer Fault
in_turns turn state count words = do
  count ← wanted count
  replica ← loaded state
  games ← codes_of words
  end ← in_turn (turn count) games (record { replica = replica; text = [] })
  saved end.replica end.text

-- what is done after each of them, up to the first fault
abbrev pub stages_in_turns : (ℕ → Code → RecordContent → Result Turn Fault) → Bytes → ℕ → List Bytes → List Turn
stages_in_turns turn state count words = unwrap_or (result_ok (do
  count ← wanted count
  replica ← loaded state
  games ← codes_of words
  Ok (stages (turn count) games (record { replica = replica; text = [] })))) []

abbrev pub extend : Bytes → ℕ → List Bytes → Result Answer Fault
extend = in_turns extend_turn
