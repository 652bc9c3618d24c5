-- The columns of the table of games: which of them have something, and what stands in each.
use Rattle.std.specs.Prelude.{ℕ, ◌==◌, ◌||◌, nat_lt, Bool, true, if◌then◌else◌, List, [], ◌∷◌, codes, filter, map, Option, Some, None, is_some}
use Rattle.std.specs.List.{concat, list_any}
use Rattle.std.specs.Fmt.{decimal}
use Rattle.oct_ops.specs.Operation.{Period}
use Rattle.oct_text.specs.Words.{Text}
use Rattle.oct_views.specs.declared.columns.Column.{Column}
use Rattle.oct_views.specs.declared.columns.Column.TheVariants as column
use Rattle.oct_sheet.specs.declared.summary.Summary.{Summary}
use Rattle.oct_sheet.specs.declared.summary.GameTally.{GameTally}

-- ---- which columns there are

-- those behind the codes, in their order
abbrev pub all_columns : List Column
all_columns =
    column.Values ∷ column.Period ∷ column.Start ∷ column.BlocksProved ∷ column.BlocksRefuted ∷ column.BlocksPending ∷ column.ClaimsProved ∷ column.ClaimsRefuted
    ∷ column.ClaimsPending ∷ []

-- whether the row of a game has something in a column; how many values are known, and how many blocks are proved, is always told
abbrev pub has_something : Column → Summary → Bool
has_something column.Values row = true
has_something column.Period row = is_some row.proved
has_something column.Start row = is_some row.proved
has_something column.BlocksProved row = true
has_something column.BlocksRefuted row = nat_lt 0 row.blocks.refuted || nat_lt 0 row.blocks.withdrawn
has_something column.BlocksPending row = nat_lt 0 row.blocks.pending
has_something column.ClaimsProved row = nat_lt 0 row.claims.proved
has_something column.ClaimsRefuted row = nat_lt 0 row.claims.refuted || nat_lt 0 row.claims.withdrawn
has_something column.ClaimsPending row = nat_lt 0 row.claims.pending

abbrev pub has_some : Column → List Summary → Bool
has_some c rows = list_any (has_something c) rows

-- a column in which no row has anything is left out
abbrev pub columns_of : List Summary → List Column
columns_of rows = filter (λ c. has_some c rows) all_columns

-- ---- what stands above them

abbrev pub head : Column → Text
head column.Values = codes "values"
head column.Period = codes "period"
head column.Start = codes "start"
head column.BlocksProved = codes "blocks proved"
head column.BlocksRefuted = codes "blocks refuted"
head column.BlocksPending = codes "blocks pending"
head column.ClaimsProved = codes "claims proved"
head column.ClaimsRefuted = codes "claims refuted"
head column.ClaimsPending = codes "claims pending"

abbrev pub heads : List Column → List Text
heads columns = codes "code" ∷ map head columns

-- ---- what stands in them

abbrev pub number_cell : ℕ → Text
number_cell n = concat (codes "<td>" ∷ decimal n ∷ codes "</td>" ∷ [])

-- a period and its start, where one is proved
abbrev pub period_cell : Option Period → Text
period_cell None = codes "<td></td>"
period_cell (Some p) = number_cell p.period

abbrev pub start_cell : Option Period → Text
start_cell None = codes "<td></td>"
start_cell (Some p) = number_cell p.start

-- how many more are refuted and withdrawn, where some are
abbrev pub withdrawn_count : ℕ → Text
withdrawn_count n = if n == 0 then [] else concat (codes " and " ∷ decimal n ∷ codes " withdrawn" ∷ [])

abbrev pub refuted_cell : GameTally → Text
refuted_cell t = concat (concat (codes "<td>" ∷ decimal t.refuted ∷ []) ∷ withdrawn_count t.withdrawn ∷ codes "</td>" ∷ [])

abbrev pub cell : Summary → Column → Text
cell row column.Values = number_cell row.known
cell row column.Period = period_cell row.proved
cell row column.Start = start_cell row.proved
cell row column.BlocksProved = number_cell row.blocks.proved
cell row column.BlocksRefuted = refuted_cell row.blocks
cell row column.BlocksPending = number_cell row.blocks.pending
cell row column.ClaimsProved = number_cell row.claims.proved
cell row column.ClaimsRefuted = refuted_cell row.claims
cell row column.ClaimsPending = number_cell row.claims.pending
