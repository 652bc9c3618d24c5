-- The tables of a game's known nim-values.
use Rattle.std.specs.Prelude.{ℕ, ◌+◌, ◌-◌, ◌*◌, ◌%◌, ◌^◌, max, Bool, not, ◌==◌, ◌&&◌, nat_le, nat_lt, if◌then◌else◌, List, [], ◌∷◌, length, map, take, drop, fold, codes, find, unwrap_or, Option, Some, None}
use Rattle.std.specs.Int.{div_ceil}
use Rattle.std.specs.List.{concat, enumerate_from, flat_map, range_with_len}
use Rattle.std.specs.Fmt.{decimal}
use Rattle.oct_ops.specs.Operation.{Period}
use Rattle.oct_text.specs.Words.{Text}
use Rattle.oct_tables.specs.Tables.{table_of}
use Rattle.oct_tables.specs.declared.values_table.Layout.{Layout}
use Rattle.oct_text.specs.declared.shown.Shown.{Shown}
use Rattle.oct_text.specs.declared.shown.Shown.TheVariants as shown

-- ---- which values are shown

-- how many from heap 0 on: all; or those up to the end of the second period, where one is proved; or all where they are at most 1,100, and else 1,000
abbrev pub front_len : Shown → ℕ → Option Period → ℕ
front_len shown.All known proved = known
front_len shown.Brief known None = if nat_le known 1100 then known else 1000
front_len shown.Brief known (Some p) = p.start + 2 * p.period

-- how many at the end: the last 100, where some before them are left out and no period is proved
abbrev pub back_len : Shown → ℕ → Option Period → ℕ
back_len shown.All known proved = 0
back_len shown.Brief known None = if nat_le known 1100 then 0 else 100
back_len shown.Brief known (Some p) = 0

-- ---- rows

-- how many values stand in a row, 20 to 40: the least multiple of the period that fits, or else its greatest divisor that fits, or else 20
abbrev pub widths : List ℕ
widths = map (λ i. 40 - i) (range_with_len 0 21)

abbrev pub width_of : ℕ → ℕ
width_of period = if nat_le period 40 then period * div_ceil 20 period else unwrap_or (find (λ width. (period % max width 1) == 0) widths) 20

-- all from heap 0 on: rows are counted from heap 0, and anew from the first heap of the period, where one is proved
abbrev pub front_layout : Option Period → Layout
front_layout None = record { first = 0; start = 0; width = 20; shaded = 0 }
front_layout (Some p) = record { first = 0; start = p.start; width = width_of p.period; shaded = p.period }

-- those from a heap on
abbrev pub back_layout : ℕ → Layout
back_layout first = record { first = first; start = first; width = 20; shaded = 0 }

abbrev pub begins_row : Layout → ℕ → Bool
begins_row l heap = ((if nat_lt heap l.start then heap else heap - l.start) % l.width) == 0

-- whether the heap is of the first period
abbrev pub is_shaded : Layout → ℕ → Bool
is_shaded l heap = nat_le l.start heap && nat_lt (heap - l.start) l.shaded

-- the end of the shade, where it ends inside a row
abbrev pub after_shade : Layout → ℕ → Text
after_shade l heap = if is_shaded l (heap - 1) && not (is_shaded l heap) then codes "</mark>" else []

-- the end of the row whose last value is that of the heap before
abbrev pub row_end : Layout → ℕ → Text
row_end l heap = if is_shaded l (heap - 1) then codes "</mark></td></tr>\n" else codes "</td></tr>\n"

-- the end of the row before the one that begins at the heap
abbrev pub row_before : Layout → ℕ → Text
row_before l heap = if heap == l.first then [] else row_end l heap

abbrev pub cell_head : Layout → ℕ → Text
cell_head l heap = if is_shaded l heap then codes "</th><td><mark>" else codes "</th><td>"

abbrev pub row_head : Layout → ℕ → Text
row_head l heap = concat (row_before l heap ∷ codes "<tr><th scope=\"row\">" ∷ decimal heap ∷ cell_head l heap ∷ [])

-- what stands before the value of a heap
abbrev pub before_value : Layout → ℕ → Text
before_value l heap = if begins_row l heap then row_head l heap else after_shade l heap

-- 10, 100 and so on to 10^9
abbrev pub powers : List ℕ
powers = map (λ i. 10 ^ i) (range_with_len 1 9)

-- one blank where the value has fewer digits than the power of ten, and the greatest value has not
abbrev pub blank_for : ℕ → ℕ → ℕ → Text
blank_for greatest value power = if nat_lt value power && nat_le power greatest then codes " " else []

-- a value after blanks: it takes one place more than the greatest value has digits
abbrev pub padded : ℕ → ℕ → Text
padded greatest value = concat (flat_map (blank_for greatest value) powers ∷ concat (codes " " ∷ decimal value ∷ []) ∷ [])

-- a heap's value, with what stands before it
abbrev pub value_text : Layout → ℕ → ℕ × ℕ → Text
value_text l greatest h = concat (before_value l h.0 ∷ padded greatest h.1 ∷ [])

abbrev pub values_rows : Layout → ℕ → List ℕ → Text
values_rows l greatest values =
    concat (flat_map (value_text l greatest) (enumerate_from l.first values) ∷ row_end l (l.first + length values) ∷ [])

abbrev pub values_columns : List Text
values_columns = codes "heap" ∷ codes "nim-values" ∷ []

abbrev pub values_in : Layout → Text → List ℕ → Text
values_in l caption values = table_of (codes "values") caption values_columns (values_rows l (fold max 0 values) values)

-- a table of the values, where there are any
abbrev pub values_table : Layout → Text → List ℕ → Text
values_table l caption [] = []
values_table l caption (v ∷ vs) = values_in l caption (v ∷ vs)

-- ---- the tables of a game

-- the first values that are shown
abbrev pub front_values : Shown → List ℕ → Option Period → List ℕ
front_values how values proved = take (front_len how (length values) proved) values

abbrev pub front_table : Shown → List ℕ → Option Period → Text
front_table how values proved =
    values_table (front_layout proved) (codes "Nim-values: each row from the heap at its head on") (front_values how values proved)

abbrev pub back_table : Shown → List ℕ → Option Period → Text
back_table how values proved =
    let first = length values - back_len how (length values) proved in
    values_table (back_layout first) (codes "The last 100 known nim-values") (drop first values)

abbrev pub values_tables : Shown → List ℕ → Option Period → Text
values_tables how values proved = concat (front_table how values proved ∷ back_table how values proved ∷ [])
