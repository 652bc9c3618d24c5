-- The first fault of values that are no part of an operation.
use Rattle.std.specs.Prelude.{◌≡◌, ℕ, ◌+◌, Bool, not, ◌&&◌, ◌||◌, ◌==◌, nat_le, nat_lt, if◌then◌else◌, List, length, Option, Some, None}
use Rattle.std.specs.List.{list_all}
use Rattle.oct_ops.specs.DotOrder.{dot_cmp}
use Rattle.oct_ops.specs.Operation.{Dot, Block, Period, Note, Removal}
use Rattle.oct_ops.specs.Sets.{rises}
use Rattle.oct_code.specs.declared.limits.TheConstants.{LIMIT}
use Rattle.oct_ops.specs.declared.limits.TheConstants.{MAX_ITEMS, MAX_NAME, MAX_TEXT}
use Rattle.oct_ops.specs.declared.error.BlockError.{BlockError}
use Rattle.oct_ops.specs.declared.error.BlockError.TheVariants as block
use Rattle.oct_ops.specs.declared.error.PeriodError.{PeriodError}
use Rattle.oct_ops.specs.declared.error.PeriodError.TheVariants as period
use Rattle.oct_ops.specs.declared.error.NoteError.{NoteError}
use Rattle.oct_ops.specs.declared.error.NoteError.TheVariants as note
use Rattle.oct_ops.specs.declared.error.RemovalError.{RemovalError}
use Rattle.oct_ops.specs.declared.error.RemovalError.TheVariants as removal

abbrev pub is_dot : Dot → Bool
is_dot d = nat_le 1 d.author && nat_le 1 d.number

abbrev pub block_fault : Block → Option BlockError
block_fault b =
    if length b.values == 0 then Some block.Empty
    else (if nat_lt MAX_ITEMS (length b.values) then Some block.TooMany
    else (if nat_lt LIMIT (b.start + length b.values) then Some block.PastLimit
    else None))

abbrev pub period_fault : Period → Option PeriodError
period_fault p =
    if (p.start == 0) || (p.period == 0) then Some period.Zero
    else (if nat_lt LIMIT p.start || nat_lt LIMIT p.period then Some period.PastLimit
    else None)

-- a to z, 0 to 9 and the hyphen
abbrev pub is_name_byte : ℕ → Bool
is_name_byte b = (nat_le 97 b && nat_le b 122) || ((nat_le 48 b && nat_le b 57) || (b == 45))

-- from the space to the tilde
abbrev pub is_text_byte : ℕ → Bool
is_text_byte b = nat_le 32 b && nat_le b 126

abbrev pub are_name_bytes : List ℕ → Bool
are_name_bytes bytes = list_all is_name_byte bytes

abbrev pub are_text_bytes : List ℕ → Bool
are_text_bytes bytes = list_all is_text_byte bytes

abbrev pub is_name : List ℕ → Bool
is_name name = nat_le 1 (length name) && nat_le (length name) MAX_NAME && are_name_bytes name

abbrev pub is_text : List ℕ → Bool
is_text text = nat_le (length text) MAX_TEXT && are_text_bytes text

abbrev pub note_fault : Note → Option NoteError
note_fault n =
    if not (is_name n.name) then Some note.Name
    else (if not (is_text n.text) then Some note.Text
    else None)

abbrev pub removal_fault : Removal → Option RemovalError
removal_fault r =
    if length r.dots == 0 then Some removal.Empty
    else (if nat_lt MAX_ITEMS (length r.dots) then Some removal.TooMany
    else (if not (rises dot_cmp r.dots) then Some removal.NotRising
    else None))

-- a refusal of a note is its fault, and want of memory where it has none
abbrev pub IsFaultOrMemory : Option NoteError → NoteError → Type 0
IsFaultOrMemory None error = error ≡ note.OutOfMemory
IsFaultOrMemory (Some fault) error = error ≡ fault
