-- Tables in HTML.
use Rattle.std.specs.Prelude.{List, [], ◌∷◌, codes}
use Rattle.std.specs.List.{concat, flat_map}
use Rattle.oct_text.specs.Words.{Text}

-- the head of a column
abbrev pub column : Text → Text
column name = concat (codes "<th scope=\"col\">" ∷ name ∷ codes "</th>" ∷ [])

-- the table of a kind, in a part that scrolls by itself
abbrev pub caption_text : Text → Text → Text
caption_text kind caption = concat (
    codes "<div class=\"scroll\" role=\"region\" tabindex=\"0\" aria-label=\"" ∷ caption ∷ codes "\">\n<table class=\"" ∷ kind
    ∷ codes "\">\n<caption>" ∷ caption ∷ codes "</caption>\n<thead><tr>" ∷ [])

abbrev pub table_head : Text → Text → List Text → Text
table_head kind caption columns = concat (caption_text kind caption ∷ flat_map column columns ∷ codes "</tr></thead>\n<tbody>\n" ∷ [])

abbrev pub table_end : Text
table_end = codes "</tbody>\n</table>\n</div>\n"

-- a table of these rows, or nothing where they have no text
abbrev pub table_of : Text → Text → List Text → Text → Text
table_of kind caption columns [] = []
table_of kind caption columns (b ∷ rows) = concat (table_head kind caption columns ∷ (b ∷ rows) ∷ table_end ∷ [])

-- one of no other kind
abbrev pub table : Text → List Text → Text → Text
table caption columns rows = table_of (codes "plain") caption columns rows
