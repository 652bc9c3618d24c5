-- b-files: texts that list the values of a sequence, a line to each, as the On-Line Encyclopedia of Integer Sequences has
-- them.
use Rattle.std.specs.Prelude.{ℕ, ◌+◌, ◌^◌, ◌==◌, nat_lt, nat_le, Bool, true, not, ◌&&◌, ◌||◌, List, [], ◌∷◌, ◌++◌, length, filter, map, drop, slice_index, codes, Option, Some, None, Result, Ok, Err, if◌then◌else◌}
use Rattle.std.specs.List.{filter_map, onto_first, position_or_len, slice_split}
use Rattle.std.specs.Fmt.{decimal}
use Rattle.std.specs.Str.{all_ascii_digits}
use Rattle.std.specs.Str.Parse.{digits_value}
use Rattle.oct_code.specs.declared.limits.TheConstants.{LIMIT}
use Rattle.oct_text.specs.Words.{Text}
use Rattle.oct_bfile.specs.declared.bfile_error.BfileError.{BfileError}
use Rattle.oct_bfile.specs.declared.bfile_error.BfileError.TheVariants.{Form, Order, PastLimit, Empty, OutOfMemory}
use Rattle.oct_bfile.specs.declared.bfile_line.BfileLine.{BfileLine}
use Rattle.oct_bfile.specs.declared.bfile_line.BfileLine.TheVariants.{Row, Skipped, Faulty}

-- ---- what is written

-- the line of the n-th value
abbrev pub row_text : ℕ → ℕ → Text
row_text n v = decimal n ++ codes " " ++ decimal v ++ codes "\n"

-- the lines of values from the n-th on
abbrev pub rows_text : ℕ → List ℕ → Text
rows_text n [] = []
rows_text n (v ∷ vs) = row_text n v ++ rows_text (n + 1) vs

-- the values from the 0-th on
abbrev pub bfile_text : List ℕ → Text
bfile_text values = rows_text 0 values

-- ---- lines

-- an LF or a CR
abbrev pub ends_line : ℕ → Bool
ends_line b = (b == 10) || (b == 13)

-- a text that begins with an LF
abbrev pub begins_with_feed : Text → Bool
begins_with_feed bs = slice_index bs 0 == 10

-- the lines of a text: LF, CR LF or CR ends a line, and so does the end of the text where something stands before it.
-- The CR of a CR LF is passed over, since the LF ends the line
abbrev pub lines : Text → List Text
lines [] = []
lines (b ∷ bs) =
    if (b == 13) && begins_with_feed bs then lines bs
    else (if ends_line b then [] ∷ lines bs
    else onto_first b (lines bs))

-- how many bytes end a line, where the rest of the text begins with its end
abbrev pub end_len : Text → ℕ
end_len [] = 0
end_len (b ∷ bs) = if (b == 13) && begins_with_feed bs then 2 else 1

-- what stands behind the end of the first line
abbrev pub behind_line : Text → Text
behind_line bs =
    let rest = drop (position_or_len ends_line bs) bs in
    drop (end_len rest) rest

-- ---- what a line says

-- a space or a tab
abbrev pub is_blank : ℕ → Bool
is_blank b = (b == 32) || (b == 9)

abbrev pub is_filled : Text → Bool
is_filled part = not (length part == 0)

-- what stands between the blanks of a line
abbrev pub words : Text → List Text
words line = filter is_filled (slice_split is_blank line)

-- a line from its first word on
abbrev pub from_word : Text → Text
from_word line = drop (position_or_len (λ b. not (is_blank b)) line) line

-- what stands behind the first word
abbrev pub behind_word : Text → Text
behind_word line = drop (position_or_len is_blank (from_word line)) (from_word line)

-- one or more decimal digits, of a number below 2^32
abbrev pub is_number : Text → Bool
is_number word = is_filled word && (all_ascii_digits word && nat_lt (digits_value 10 word) (2 ^ 32))

abbrev pub number_of : Text → Option ℕ
number_of word = if is_number word then Some (digits_value 10 word) else None

-- a word that begins with the number sign
abbrev pub begins_comment : Text → Bool
begins_comment word = slice_index word 0 == 35

abbrev pub row_of : Option ℕ → Option ℕ → BfileLine
row_of None v = Faulty
row_of (Some n) None = Faulty
row_of (Some n) (Some v) = Row n v

-- two words, and no more, are a row
abbrev pub row_by : Text → List Text → BfileLine
row_by first [] = Faulty
row_by first (second ∷ []) = row_of (number_of first) (number_of second)
row_by first (second ∷ third ∷ rest) = Faulty

-- a line without words says nothing, nor does a comment
abbrev pub line_by : List Text → BfileLine
line_by [] = Skipped
line_by (first ∷ rest) = if begins_comment first then Skipped else row_by first rest

abbrev pub line_of : Text → BfileLine
line_of line = line_by (words line)

-- ---- what a file says

-- the first number and the values
pub record Bfile : Type 0 where
  pub start : ℕ
  pub values : List ℕ

-- the number of a row, which follows on the row before it, if there is one
abbrev pub follows : Option ℕ → ℕ → Bool
follows None n = true
follows (Some due) n = n == due

abbrev pub row_fault : ℕ → Option ℕ → ℕ → Option BfileError
row_fault place due n =
    if not (follows due n) then Some (Order place)
    else (if nat_le LIMIT n then Some (PastLimit place)
    else None)

-- the first fault of the lines, which are counted from `place` on, where the next row's number is due, if one is
abbrev pub first_fault : ℕ → Option ℕ → List BfileLine → Option BfileError
first_fault place due [] = None
first_fault place due (Skipped ∷ rest) = first_fault (place + 1) due rest
first_fault place due (Faulty ∷ rest) = Some (Form place)
first_fault place due (Row n v ∷ rest) = elim (row_fault place due n) [ Some fault ↦ Some fault | None ↦ first_fault (place + 1) (Some (n + 1)) rest ]

-- the number of the first row
abbrev pub start_of : List BfileLine → Option ℕ
start_of [] = None
start_of (Skipped ∷ rest) = start_of rest
start_of (Faulty ∷ rest) = start_of rest
start_of (Row n v ∷ rest) = Some n

abbrev pub value_in : BfileLine → Option ℕ
value_in Skipped = None
value_in Faulty = None
value_in (Row n v) = Some v

abbrev pub values_of : List BfileLine → List ℕ
values_of = filter_map value_in

-- the values of the rows of a text
abbrev pub row_values : Text → List ℕ
row_values text = values_of (map line_of (lines text))

abbrev pub file_by : Option ℕ → List ℕ → Result Bfile BfileError
file_by None values = Err Empty
file_by (Some start) values = Ok (record { start = start; values = values })

abbrev pub checked_by : Option BfileError → List BfileLine → Result Bfile BfileError
checked_by (Some fault) rows = Err fault
checked_by None rows = file_by (start_of rows) (values_of rows)

-- the first fault of the text's lines, which are counted from 1; else its rows, if it has any
abbrev pub bfile_of : Text → Result Bfile BfileError
bfile_of text =
    let rows = map line_of (lines text) in
    checked_by (first_fault 1 None rows) rows

-- ---- what a fault is called

-- its name, and behind it the number of the line
abbrev pub fault_text : BfileError → Text
fault_text (Form place) = codes "Form " ++ decimal place
fault_text (Order place) = codes "Order " ++ decimal place
fault_text (PastLimit place) = codes "PastLimit " ++ decimal place
fault_text Empty = codes "Empty"
fault_text OutOfMemory = codes "OutOfMemory"
