-- How the rows of tables are spelled in SQL.
use Rattle.std.specs.Prelude.{ℕ, ◌==◌, Bool, true, false, List, [], ◌∷◌, map, length, codes, Option, Some, None, if◌then◌else◌}
use Rattle.std.specs.List.{concat, flat_map, join_with_byte}
use Rattle.std.specs.Fmt.{decimal}
use Rattle.oct_code.specs.Code.{Code}
use Rattle.oct_code.specs.CodeText.{code_text}
use Rattle.oct_text.specs.Words.{Text}
use Rattle.oct_sql.specs.declared.cell.Cell.{Cell}
use Rattle.oct_sql.specs.declared.cell.Cell.TheVariants as cell

-- ---- what stands in a column

-- nothing
abbrev pub null : Text
null = codes "NULL"

-- ' twice, and any other byte by itself
abbrev pub doubled_byte : ℕ → Text
doubled_byte b = if b == 39 then codes "''" else b ∷ []

abbrev pub doubled : Text → Text
doubled text = flat_map doubled_byte text

-- a text of any bytes, between quotes
abbrev pub literal : Text → Text
literal text = concat (codes "'" ∷ doubled text ∷ codes "'" ∷ [])

-- the text of a code, which has no quote
abbrev pub code_literal : Code → Text
code_literal c = concat (codes "'" ∷ code_text c ∷ codes "'" ∷ [])

-- a number, where there is one
abbrev pub number_cell : Option ℕ → Text
number_cell None = null
number_cell (Some n) = decimal n

-- the text of a code, where there is one
abbrev pub code_cell : Option Code → Text
code_cell None = null
code_cell (Some c) = code_literal c

-- the name of an author, where it has one
abbrev pub name_cell : Text → Text
name_cell name = if length name == 0 then null else literal name

-- 1 for true, 0 for false
abbrev pub truth_cell : Bool → Text
truth_cell holds = decimal (if holds then 1 else 0)

-- the same, of what the program has in memory
abbrev pub cell_text : Cell → Text
cell_text cell.Null = null
cell_text (cell.Number n) = decimal n
cell_text (cell.Text text) = literal text.now
cell_text (cell.Code c) = code_literal c

-- ---- rows

-- a comma, where something stands before
abbrev pub comma_if : Bool → Text
comma_if true = codes ","
comma_if false = []

-- the row of these cells in a table; 44 is the comma
abbrev pub row : Text → List Text → Text
row table cells = concat (codes "INSERT INTO " ∷ table ∷ codes " VALUES(" ∷ join_with_byte 44 cells ∷ codes ");\n" ∷ [])

-- a row for each of the values: the code, the heap, which is the place of the value in the list, and the value
abbrev pub values_row : Code → List ℕ → Text
values_row c values = concat (
    codes "INSERT INTO game_values SELECT " ∷ code_literal c ∷ codes ",key,value FROM json_each('["
    ∷ join_with_byte 44 (map decimal values) ∷ codes "]');\n" ∷ [])
