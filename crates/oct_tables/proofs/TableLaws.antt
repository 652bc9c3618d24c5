-- Tables that have rows.
use Rattle.std.proofs.Common.{arith, ◌≡◌, ℕ, ◌<◌, ◌+◌, ◌-◌, List, [], ◌∷◌, length, length-append, refl}
use Rattle.std.specs.List.{concat}
use Rattle.std.specs.Prelude.{codes, if◌then◌else◌, true, false}
use Rattle.oct_tables.specs.Tables.{table_end, table_head, table_of}
use Rattle.oct_tables.specs.Values.{is_shaded, row_end, values_in, values_rows, values_table}
use Rattle.oct_tables.specs.declared.values_table.Layout.{Layout}

pub table-some : (kind caption : List ℕ) (columns : List (List ℕ)) (rows : List ℕ) → 0 < length rows
    → table_of kind caption columns rows ≡ concat (table_head kind caption columns ∷ rows ∷ table_end ∷ [])
table-some kind caption columns [] some = absurd (omega arith)
table-some kind caption columns (b ∷ rows) some = refl

pub values_table-some : (l : Layout) (caption values : List ℕ) → 0 < length values → values_table l caption values ≡ values_in l caption values
values_table-some l caption [] some = absurd (omega arith)
values_table-some l caption (v ∷ vs) some = refl

row_end-some : (l : Layout) (heap : ℕ) → 0 < length (row_end l heap)
row_end-some l heap = elim (is_shaded l (heap - 1)) as (λ b. 0 < length (if b then codes "</mark></td></tr>\n" else codes "</td></tr>\n")) [ true ↦ omega arith | false ↦ omega arith ]

-- rows have at least their end
pub values_rows-some : (l : Layout) (greatest : ℕ) (values : List ℕ) → 0 < length (values_rows l greatest values)
values_rows-some l greatest values = let end = row_end-some l (l.first + length values) in simp length-append (omega (arith, end))
