-- What the commands give that make a state, have it go on under another author, or merge a delta into it.
use Rattle.std.specs.Prelude.{◌≡◌, ◌==◌, ◌-◌, ℕ, length, is_none, is_some, codes, Option, option_map, Result, Ok, Err, if◌then◌else◌}
use Rattle.oct_delta.specs.Decoding.{format_at, read_delta}
use Rattle.oct_delta.specs.Taken.{operations_of}
use Rattle.oct_delta.specs.Text.{Bytes}
use Rattle.oct_ops.specs.Operations.{Operations, empty, listed, union, IsSubset}
use Rattle.oct_ops.specs.Operation.{Dot}
use Rattle.oct_record.specs.Content.{RecordContent}
use Rattle.oct_record.specs.Numbers.{foreign_of, holds_any}
use Rattle.oct_record.specs.Taking.{count_new, with_all}
use Rattle.oct_record.specs.declared.error.TakeError.{TakeError}
use Rattle.oct_record.specs.declared.error.TakeError.TheVariants.{Version, Refused}
use Rattle.census_state.specs.Lines.{number_line, renumbered_line, union_line}
use Rattle.census_state.specs.Replies.{Answer}
use Rattle.census_state.specs.Steps.{◌>>=◌}
use Rattle.census_state.specs.Stored.{loaded, saved}
use Rattle.census_state.specs.declared.fault.Fault.{Fault}
use Rattle.census_state.specs.declared.fault.Fault.TheVariants.{Zero, Held, Author, Merge}

-- a state without operations
abbrev pub init : ℕ → Result Answer Fault
init id = if id == 0 then Err Zero else saved (record { author = id; ops = empty }) (number_line (codes "author ") id)

-- the same operations under another author, of whom there is none
abbrev pub renumbered : RecordContent → ℕ → Result Answer Fault
renumbered r id = if holds_any r.ops id then Err Held else saved (record r { author = id }) (renumbered_line r.author id)

abbrev pub renumber : ℕ → Bytes → Result Answer Fault
renumber id state = if id == 0 then Err Zero else (loaded state >>= λ r. renumbered r id)

-- why bytes that are no delta are refused
abbrev pub delta_refusal : Bytes → TakeError
delta_refusal file = if is_none (format_at file) then Version else Refused

-- the operations of a delta
abbrev pub delta_of : Bytes → Result Operations Fault
delta_of file = if is_some (read_delta file) then Ok (operations_of file) else Err (Merge (delta_refusal file))

-- the union, and how many operations are new
abbrev pub merged : RecordContent → Operations → Result Answer Fault
merged r ops = saved (with_all r ops) (number_line (codes "new ") (count_new r.ops (listed ops)))

abbrev pub merge : Bytes → Bytes → Result Answer Fault
merge state file = do
  replica ← loaded state
  ops ← delta_of file
  merged replica ops

-- the union with these operations, under the author of what is kept; and how many are new there
abbrev pub united : RecordContent → Operations → Result Answer Fault
united kept ops =
    let all = union kept.ops ops in
    saved (record kept { ops = all }) (union_line (length (listed all) - length (listed kept.ops)) (length (listed all)))

-- a state file as it stands after a session, and what the session holds
abbrev pub rejoined : Bytes → RecordContent → Result Answer Fault
rejoined state held = do
  kept ← loaded state
  if kept.author == held.author then united kept held.ops else Err Author

-- the dot of the least operation by the author of a state file that is held, and that the file has not
abbrev pub foreign_to : Bytes → RecordContent → Result (Option Dot) Fault
foreign_to state held = loaded state >>= λ kept. Ok (option_map (λ o. o.dot) (foreign_of kept.ops held.ops kept.author))

-- of what is held these so many operations were kept, under the same author
pub record IsHeldBefore (kept : RecordContent) (before : ℕ) (held : RecordContent) : Type 0 where
  pub author : kept.author ≡ held.author
  pub all : IsSubset kept.ops held.ops
  pub count : length (listed kept.ops) ≡ before

-- the text of a session that brought nothing, where the state file says what is held: no operation is new there
abbrev pub unchanged : RecordContent → Bytes
unchanged held = union_line 0 (length (listed held.ops))
