-- The operations that a text spells, in either format, and none where the bytes are no text.
use Rattle.std.specs.Prelude.{List, [], ◌∷◌, drop, if◌then◌else◌, nat_eq, Option, Some, None, Ok, Err}
use Rattle.std.specs.List.{starts_with}
use Rattle.oct_ops.specs.Body.{Operation}
use Rattle.oct_delta.specs.Text.{Bytes}
use Rattle.oct_delta.specs.Delta.{Format, old_format, new_format}
use Rattle.oct_delta.specs.Reading.{Read, list_at}

-- what was read, where nothing is left
abbrev pub all_of : {A : Type 0} → Read A → Option A
all_of (Ok (x, [])) = Some x
all_of (Ok (x, b ∷ rest)) = None
all_of (Err e) = None

-- the format that the first four bytes name
abbrev pub format_at : Bytes → Option Format
format_at bytes =
    if starts_with nat_eq bytes old_format.tag then Some old_format
    else if starts_with nat_eq bytes new_format.tag then Some new_format
    else None

abbrev pub read_as : Option Format → Bytes → Option (List Operation)
read_as None bytes = None
read_as (Some format) bytes = all_of (list_at format.limit (drop 4 bytes))

abbrev pub read_delta : Bytes → Option (List Operation)
read_delta bytes = read_as (format_at bytes) bytes
