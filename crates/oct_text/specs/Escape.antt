-- Texts of others, as HTML and a string of JSON show them.
use Rattle.std.specs.Prelude.{ℕ, ◌==◌, [], ◌∷◌, codes, length, if◌then◌else◌}
use Rattle.std.specs.List.{concat, flat_map}
use Rattle.oct_text.specs.Words.{Text}

-- & < > " ', each by the entity that stands for it, and any other byte by itself
abbrev pub escaped_byte : ℕ → Text
escaped_byte b =
    (if b == 38 then codes "&amp;" else
    (if b == 60 then codes "&lt;" else
    (if b == 62 then codes "&gt;" else
    (if b == 34 then codes "&quot;" else
    (if b == 39 then codes "&#39;" else b ∷ [])))))

abbrev pub escaped : Text → Text
escaped text = flat_map escaped_byte text

-- a name behind a number in HTML, where there is one
abbrev pub name_part : Text → Text
name_part name = concat (codes " <span class=\"name\">" ∷ escaped name ∷ codes "</span>" ∷ [])

abbrev pub name_beside : Text → Text
name_beside name = if length name == 0 then [] else name_part name

-- " and \ after a \, and any other byte by itself: a printable text inside a string of JSON
abbrev pub quoted_byte : ℕ → Text
quoted_byte b = if b == 34 then codes "\\\"" else (if b == 92 then codes "\\\\" else b ∷ [])

abbrev pub quoted : Text → Text
quoted text = flat_map quoted_byte text
