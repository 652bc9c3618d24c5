-- What the commands give that issue an operation: the state that has it, and its dot.
use Rattle.std.specs.Prelude.{ℕ, ◌++◌, codes, None, Result, Ok, Err, if◌then◌else◌}
use Rattle.std.specs.Str.{is_utf8}
use Rattle.oct_code.specs.Code.{Code}
use Rattle.oct_delta.specs.Text.{Bytes}
use Rattle.oct_notes.specs.Notes.{live_dots}
use Rattle.oct_ops.specs.Body as kind
use Rattle.oct_ops.specs.Body.{Body, Operation}
use Rattle.oct_ops.specs.Faults.{note_fault, period_fault}
use Rattle.oct_ops.specs.Operation.{Block, Dot, Period, Note, Removal, noted, removing, repeating}
use Rattle.oct_ops.specs.Operations.{insert, listed}
use Rattle.oct_pages.specs.GamesIn.{content_in}
use Rattle.oct_period.specs.Computing.{compute_fault, next_block}
use Rattle.oct_record.specs.Removals.{removal_fault}
use Rattle.oct_record.specs.Content.{RecordContent}
use Rattle.oct_record.specs.Taking.{has_number, next_op}
use Rattle.oct_record.specs.declared.error.IssueError.TheVariants.{LastNumber}
use Rattle.oct_verify.specs.Filing.{blocks_in}
use Rattle.oct_verify.specs.Known.{known}
use Rattle.oct_text.specs.Words.{Text, dot_text}
use Rattle.serde_json.specs.Data.{Data}
use Rattle.serde_json.specs.Read.{read}
use Rattle.census_state.specs.Codes.{code_of}
use Rattle.census_issue.specs.Imported.{imported}
use Rattle.census_state.specs.Replies.{Answer}
use Rattle.census_state.specs.Steps.{◌>>=◌, because, found, unless}
use Rattle.census_state.specs.Stored.{loaded, saved}
use Rattle.census_state.specs.declared.fault.Fault.{Fault}
use Rattle.census_state.specs.declared.fault.Fault.TheVariants as fault

-- which operation was issued
abbrev pub issued_line : Dot → Text
issued_line d = codes "issued " ++ dot_text d ++ codes "\n"

-- the author's next operation is issued, and the state is written
abbrev pub with_op : RecordContent → Operation → Result Answer Fault
with_op r o = saved (record r { ops = insert r.ops o }) (issued_line o.dot)

abbrev pub issued : RecordContent → Body → Result Answer Fault
issued r body = if has_number r.ops r.author then with_op r (next_op r.ops r.author body) else Err (fault.Issue LastNumber)

-- the replica after its author issued an operation of this body
abbrev pub with_body : RecordContent → Body → Result RecordContent Fault
with_body r body = if has_number r.ops r.author then Ok (record r { ops = insert r.ops (next_op r.ops r.author body) }) else Err (fault.Issue LastNumber)

-- the JSON value of a file
abbrev pub json_of : Bytes → Result Data Fault
json_of file = found fault.Json (if is_utf8 file then read file else None)

-- the block of a JSON file
abbrev pub block_of : Bytes → Result Block Fault
block_of file = json_of file >>= λ value. because fault.Import (imported value)

-- the next nim-values of a game
abbrev pub computed : RecordContent → Code → ℕ → Result Block Fault
computed r c count =
    let blocks = blocks_in (content_in r.ops c).blocks in
    because fault.Compute (unless (compute_fault (known blocks) count) (next_block c blocks count))

abbrev pub claim_of : Code → ℕ → ℕ → Result Period Fault
claim_of c start period = because fault.Period (unless (period_fault (repeating c start period)) (repeating c start period))

abbrev pub note_of : Bytes → Bytes → Result Note Fault
note_of name text = because fault.Note (unless (note_fault (noted name text)) (noted name text))

-- the removal of the live notes of a name
abbrev pub removal_of : RecordContent → Bytes → Result Removal Fault
removal_of r name =
    let dots = live_dots (listed r.ops) name in
    because fault.Removal (unless (removal_fault dots) (removing dots))

-- ---- the commands

abbrev pub import : Bytes → Bytes → Result Answer Fault
import state file = do
  replica ← loaded state
  block ← block_of file
  issued replica (kind.Block block)

abbrev pub compute : Bytes → Bytes → ℕ → Result Answer Fault
compute state word count = do
  replica ← loaded state
  code ← code_of word
  block ← computed replica code count
  issued replica (kind.Block block)

abbrev pub period : Bytes → Bytes → ℕ → ℕ → Result Answer Fault
period state word start length = do
  replica ← loaded state
  code ← code_of word
  claim ← claim_of code start length
  issued replica (kind.Period claim)

abbrev pub note : Bytes → Bytes → Bytes → Result Answer Fault
note state name text = do
  replica ← loaded state
  note ← note_of name text
  issued replica (kind.Note note)

abbrev pub unnote : Bytes → Bytes → Result Answer Fault
unnote state name = do
  replica ← loaded state
  removal ← removal_of replica name
  issued replica (kind.Removal removal)
