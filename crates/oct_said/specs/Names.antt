-- The names of the notes of games.
use Rattle.std.specs.Prelude.{◌+◌, nat_eq, nat_le, ◌∷◌, ◌++◌, codes, drop, length, slice_set, Option, Some, None, if◌then◌else◌}
use Rattle.std.specs.Cmp.Lexicographic.{pointwise}
use Rattle.oct_code.specs.Code.{Code}
use Rattle.oct_code.specs.CodeText.{digit_bytes, shown_digits}
use Rattle.oct_code.specs.TextFaults.{around_point, code_of_parts, text_fault}
use Rattle.oct_code.specs.declared.error.CodeError.{CodeError}
use Rattle.oct_text.specs.Words.{Text}

-- `period-`, and the code with a hyphen in place of the point
abbrev pub note_name : Code → Text
note_name c = codes "period-" ++ (48 + c.head) ∷ 45 ∷ digit_bytes (shown_digits c.digits)

abbrev pub faultless : Text → Option CodeError → Option Code
faultless text None = Some (code_of_parts (around_point text))
faultless text (Some fault) = None

-- what stands behind seven bytes, with a point in place of its second byte
abbrev pub pointed : Text → Text
pointed name = slice_set (drop 7 name) 1 46

-- the code that this is
abbrev pub code_spelled : Text → Option Code
code_spelled name = if nat_le (length name) 8 then None else faultless (pointed name) (text_fault (pointed name))

-- the game, if this is the name of its notes
abbrev pub if_named : Text → Option Code → Option Code
if_named name None = None
if_named name (Some c) = if pointwise nat_eq (note_name c) name then Some c else None

abbrev pub game_named : Text → Option Code
game_named name = if_named name (code_spelled name)
