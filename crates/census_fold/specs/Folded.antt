-- What the fold of an input writes, and how many lines it refuses.
use Rattle.std.specs.Prelude.{◌≡◌, ◌↔◌, ℕ, ◌-◌, ◌==◌, Bool, true, not, List, [], length, take, filter, slice_index, Option, Some, is_none, unwrap_or, count_by, if◌then◌else◌}
use Rattle.std.specs.List.{filter_map, flat_map}
use Rattle.std.specs.Option.{option_and_then}
use Rattle.std.specs.Result.{result_ok}
use Rattle.std.specs.Str.Lines.{lines, strip_carriage_return}
use Rattle.hex.specs.Hex.{decode_of}
use Rattle.oct_delta.specs.Text.{Bytes}
use Rattle.oct_delta.specs.Decoding.{read_delta}
use Rattle.oct_delta.specs.Delta.{IsDeltaText}
use Rattle.oct_delta.specs.Spelling.{SpellTogether}
use Rattle.oct_delta.specs.Taken.{operations_of_all}
use Rattle.oct_ops.specs.Body.{Operation}
use Rattle.oct_ops.specs.Operations.{Operations, listed, set_of}
use Rattle.oct_pages.specs.Catalogue.{catalogue}
use Rattle.oct_replica.specs.Headline.{printed}

-- what a line says with its end: all but its LF, and one CR before that
abbrev pub text_of_line : Bytes → Bytes
text_of_line line = if slice_index line (length line - 1) == 10 then strip_carriage_return (take (length line - 1) line) else line

abbrev pub is_filled : Bytes → Bool
is_filled line = not (length line == 0)

-- the lines that have something in them
abbrev pub filled_lines : Bytes → List Bytes
filled_lines input = filter is_filled (lines input)

-- the byte string that a line spells in hexadecimal digits
abbrev pub unhexed : Bytes → Option Bytes
unhexed line = result_ok (decode_of line)

-- the operations that a line spells, where it is the text of a delta
abbrev pub operations_of_line : Bytes → Option (List Operation)
operations_of_line line = option_and_then read_delta (unhexed line)

-- and none where it is refused
abbrev pub taken_of_line : Bytes → List Operation
taken_of_line line = unwrap_or (operations_of_line line) []

-- the byte strings that the filled lines spell in hexadecimal digits
abbrev pub strings_of : Bytes → List Bytes
strings_of input = filter_map unhexed (filled_lines input)

-- the union of what the lines spell
abbrev pub taken : Bytes → Operations
taken input = set_of (flat_map taken_of_line (filled_lines input))

-- its catalogue
abbrev pub folded : Bytes → Bytes
folded input = catalogue (listed (taken input))

abbrev pub is_refused : Bytes → Bool
is_refused line = is_none (operations_of_line line)

-- how many filled lines are no hexadecimal text or no delta text
abbrev pub refused : Bytes → ℕ
refused input = count_by is_refused (filled_lines input)

-- ---- the same, in the words of what is handed to a replica

-- what is written is what a replica prints to which the byte strings of the lines were handed
abbrev pub FoldedIsPrinted : Type 0
FoldedIsPrinted = (input : Bytes) → folded input ≡ printed (strings_of input)

-- it is the catalogue of the union of their operations
abbrev pub FoldedIsUnion : Type 0
FoldedIsUnion = (input : Bytes) → folded input ≡ catalogue (listed (operations_of_all (strings_of input)))

-- and of the set that has exactly the operations that they spell
abbrev pub FoldedIsSpelled : Type 0
FoldedIsSpelled = (input : Bytes) (ops : Operations) → SpellTogether (strings_of input) ops → folded input ≡ catalogue (listed ops)

-- the line is the hexadecimal text of a delta
pub record IsDeltaLine (line : Bytes) : Type 0 where
  pub bytes : Bytes
  pub digits : unhexed line ≡ Some bytes
  pub ops : List Operation
  pub text : IsDeltaText bytes ops

-- a line that is counted is one that is not
abbrev pub RefusedIsNoDelta : Type 0
RefusedIsNoDelta = (line : Bytes) → (is_refused line ≡ true) ↔ ¬ IsDeltaLine line
