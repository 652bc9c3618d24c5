-- The dots that authors withdraw.
use Rattle.std.specs.Prelude.{ℕ, ◌+◌, ◌^◌, nat_eq, nat_le, nat_lt, Bool, ◌&&◌, List, codes, drop, length, Option, Some, None, if◌then◌else◌}
use Rattle.std.specs.Cmp.Lexicographic.{pointwise}
use Rattle.std.specs.Fmt.{decimal}
use Rattle.std.specs.List.{filter_map, list_any}
use Rattle.std.specs.Ordering.{eq_by_cmp}
use Rattle.oct_notes.specs.Notes.{is_named}
use Rattle.oct_ops.specs.Body.{Operation}
use Rattle.oct_ops.specs.DotOrder.{dot_cmp}
use Rattle.oct_ops.specs.Faults.{is_dot}
use Rattle.oct_ops.specs.Operation.{Dot, dot_of}
use Rattle.oct_text.specs.Words.{Text, dot_text}
use Rattle.oct_said.specs.Lines.{number_of}
use Rattle.oct_said.specs.Noting.{text_of}

-- the number that is spelled behind the author's number and a point
abbrev pub number_behind : ℕ → Text → Option ℕ
number_behind author text = if nat_le (length text) (length (decimal author)) then None else number_of (drop (length (decimal author) + 1) text)

-- the dot, where there is one of these numbers
abbrev pub if_dot : Dot → Option Dot
if_dot d = if nat_lt d.number (2 ^ 32) && is_dot d then Some d else None

-- the dot, if this is its text
abbrev pub if_spelled : Text → Option Dot → Option Dot
if_spelled text None = None
if_spelled text (Some d) = if pointwise nat_eq (dot_text d) text then Some d else None

abbrev pub dot_by : ℕ → Text → Option ℕ → Option Dot
dot_by author text None = None
dot_by author text (Some number) = if_spelled text (if_dot (dot_of author number))

-- the dot of this author whose text this is
abbrev pub dot_said : ℕ → Text → Option Dot
dot_said author text = dot_by author text (number_behind author text)

-- the dot that a note of the name `withdrawn` says, if it is of the author of the note
abbrev pub withdrawn_by : Operation → Option Dot
withdrawn_by o = if is_named (codes "withdrawn") o then dot_said o.dot.author (text_of o.body) else None

-- the dots that notes withdraw
abbrev pub withdrawn_dots : List Operation → List Dot
withdrawn_dots notes = filter_map withdrawn_by notes

-- one of the notes withdraws what has this dot
abbrev pub is_withdrawn : List Operation → Dot → Bool
is_withdrawn notes d = list_any (eq_by_cmp dot_cmp d) (withdrawn_dots notes)
