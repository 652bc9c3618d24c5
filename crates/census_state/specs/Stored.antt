-- States, as they are read from a file and written to one.
use Rattle.std.specs.Prelude.{ℕ, ◌^◌, ◌==◌, nat_lt, length, take, drop, Option, None, option_map, Result, Ok, Err, if◌then◌else◌}
use Rattle.std.specs.Int.{w32, from_be_bytes}
use Rattle.oct_delta.specs.Decoding.{read_delta}
use Rattle.oct_delta.specs.Text.{Bytes}
use Rattle.oct_ops.specs.Operations.{listed, set_of}
use Rattle.oct_record.specs.Content.{RecordContent}
use Rattle.oct_record.specs.States.{has_tag, state_text}
use Rattle.oct_record.specs.declared.error.LoadError.TheVariants.{Version, Refused}
use Rattle.census_state.specs.Replies.{Answer, state_and_text}
use Rattle.census_state.specs.Steps.{found}
use Rattle.census_state.specs.declared.fault.Fault.{Fault}
use Rattle.census_state.specs.declared.fault.Fault.TheVariants.{Load, TooMany}

-- the operations of a delta, as an author's
abbrev pub read_held : ℕ → Bytes → Option RecordContent
read_held author bytes = option_map (λ ops. record { author = author; ops = set_of ops }) (read_delta bytes)

-- what follows the tag: the author, which is at least 1, and a delta
abbrev pub read_authored : Bytes → Option RecordContent
read_authored bytes =
    let author = from_be_bytes w32 (take 4 bytes) in
    if nat_lt (length bytes) 4 then None
    else (if author == 0 then None
    else read_held author (drop 4 bytes))

-- the replica whose text the bytes are
abbrev pub loaded : Bytes → Result RecordContent Fault
loaded bytes = if has_tag bytes then found (Load Refused) (read_authored (drop 4 bytes)) else Err (Load Version)

-- the state is written, and the text
abbrev pub saved : RecordContent → Bytes → Result Answer Fault
saved r text = if nat_lt (length (listed r.ops)) (2 ^ 32) then Ok (state_and_text (state_text r.author (listed r.ops)) text) else Err TooMany
