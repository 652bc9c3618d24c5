-- The tables of all games, and of what belongs to no game.
use Rattle.std.specs.Prelude.{ℕ, ◌==◌, ◌&&◌, ◌+◌, ◌^◌, ◌-◌, min, Bool, true, false, if◌then◌else◌, List, [], ◌∷◌, ◌++◌, length, codes, count_by, is_some}
use Rattle.std.specs.List.{concat, flat_map, fold}
use Rattle.std.specs.Fmt.{decimal}
use Rattle.oct_code.specs.Code.{Code}
use Rattle.oct_code.specs.CodeText.{code_text}
use Rattle.oct_ops.specs.Body as kind
use Rattle.oct_ops.specs.Body.{Operation}
use Rattle.oct_ops.specs.Operation.{Dot, Note}
use Rattle.oct_text.specs.Words.{Text, dot_text}
use Rattle.oct_store.specs.declared.author.Author.{Author}
use Rattle.oct_store.specs.declared.fork.Fork.{Fork}
use Rattle.oct_text.specs.Escape.{escaped}
use Rattle.oct_views.specs.Columns.{cell, columns_of, heads}
use Rattle.oct_views.specs.Game.{name_of_author, said_in_row}
use Rattle.oct_sheet.specs.Names.{Called}
use Rattle.oct_sheet.specs.Summary.{by_period, is_refuted}
use Rattle.oct_proved.specs.declared.periods.ProvedPeriod.{ProvedPeriod}
use Rattle.oct_tables.specs.Tables.{table}
use Rattle.oct_views.specs.declared.columns.Column.{Column}
use Rattle.oct_views.specs.declared.index.Links.{Links}
use Rattle.oct_views.specs.declared.index.Links.TheVariants as links
use Rattle.oct_views.specs.declared.index.Anchor.{Anchor}
use Rattle.oct_views.specs.declared.index.Anchor.TheVariants as anchors
use Rattle.oct_views.specs.declared.standing.Standing.{Standing}
use Rattle.oct_views.specs.declared.standing.Standing.TheVariants as standing
use Rattle.oct_sheet.specs.declared.periodic.Periodic.{Periodic}
use Rattle.oct_sheet.specs.declared.summary.GameTally.{GameTally}
use Rattle.oct_sheet.specs.declared.summary.Summary.{Summary}

-- ---- links to games

-- a game has a section in the same report, or a file of its own; and there an anchor for what is refuted
abbrev pub target : Links → Anchor → Code → Text
target links.Here anchors.Game c = concat (codes "#game-" ∷ code_text c ∷ [])
target links.Here anchors.Refuted c = concat (codes "#refuted-" ∷ code_text c ∷ [])
target links.Files anchors.Game c = concat (code_text c ∷ codes ".html" ∷ [])
target links.Files anchors.Refuted c = concat (code_text c ∷ codes ".html#refuted-" ∷ code_text c ∷ [])

abbrev pub link_text : Links → Anchor → Code → Text
link_text way anchor c = concat (codes "<a href=\"" ∷ target way anchor c ∷ concat (codes "\">" ∷ code_text c ∷ codes "</a>" ∷ []) ∷ [])

-- ---- all games

-- the games, those with a proved period, and the known values; each is counted up to 2^64 - 1
abbrev pub known_after : ℕ → Summary → ℕ
known_after known row = min (known + row.known) (2 ^ 64 - 1)

-- the word for one, or that for another number
abbrev pub one_or : ℕ → Text → Text → Text
one_or count one many = if count == 1 then one else many

abbrev pub games_count : ℕ → Text
games_count count = concat (codes "<p>" ∷ decimal count ∷ one_or count (codes " game, ") (codes " games, ") ∷ [])

abbrev pub proved_and_known : ℕ → ℕ → Text
proved_and_known proved known = concat (
    decimal proved ∷ codes " with a proved period; " ∷ decimal known ∷ one_or known (codes " value known.</p>\n") (codes " values known.</p>\n") ∷ [])

abbrev pub totals : List Summary → Text
totals rows = games_count (length rows) ++ proved_and_known (count_by (λ row. is_some row.proved) rows) (fold known_after 0 rows)

-- a game, and how many of its blocks and claims are refuted
abbrev pub refuted_cells : Links → Code → ℕ → ℕ → Text
refuted_cells way c blocks claims = concat (
    codes "<tr><th scope=\"row\">"
    ∷ link_text way anchors.Refuted c
    ∷ concat (codes "</th><td>" ∷ decimal blocks ∷ codes "</td><td>" ∷ decimal claims ∷ codes "</td></tr>\n" ∷ [])
    ∷ [])

-- how many of its blocks, or of its claims, are refuted, and stand or are withdrawn
abbrev pub refuted_count : Standing → GameTally → ℕ
refuted_count standing.Stands t = t.refuted
refuted_count standing.Withdrawn t = t.withdrawn

-- where one is
abbrev pub counted_row : Links → Code → ℕ → ℕ → Text
counted_row way c blocks claims = if blocks == 0 && claims == 0 then [] else refuted_cells way c blocks claims

-- the games of which a block or a claim is refuted and not withdrawn, and those of which one is refuted and withdrawn
abbrev pub refuted_row : Links → Standing → Summary → Text
refuted_row way which row = counted_row way row.code (refuted_count which row.blocks) (refuted_count which row.claims)

abbrev pub refuted_caption : Standing → Text
refuted_caption standing.Stands = codes "Refuted"
refuted_caption standing.Withdrawn = codes "Refuted, withdrawn"

abbrev pub refuted_columns : List Text
refuted_columns = codes "code" ∷ codes "blocks" ∷ codes "period claims" ∷ []

abbrev pub refuted_table : Links → Standing → List Summary → Text
refuted_table way which rows = table (refuted_caption which) refuted_columns (flat_map (refuted_row way which) rows)

-- how the row of a game begins; where something of the game is refuted, and not withdrawn, it is marked
abbrev pub row_begin : Bool → Text
row_begin true = codes "<tr class=\"refuted\"><th scope=\"row\">"
row_begin false = codes "<tr><th scope=\"row\">"

-- what somebody says of the game stands below its code
abbrev pub row_head : Links → List Operation → Summary → Text
row_head way notes row = concat (row_begin (is_refuted row) ∷ link_text way anchors.Game row.code ∷ said_in_row notes row.code ∷ codes "</th>" ∷ [])

-- a game, and what stands of it in these columns
abbrev pub game_row : Links → List Operation → List Column → Summary → Text
game_row way notes columns row = concat (row_head way notes row ∷ flat_map (cell row) columns ∷ codes "</tr>\n" ∷ [])

abbrev pub games_caption : ℕ → Text
games_caption count = concat (codes "Games (" ∷ decimal count ∷ codes ")" ∷ [])

-- all games, with the columns in which a game has something
abbrev pub games_table : Links → List Operation → List Summary → Text
games_table way notes rows =
    let columns = columns_of rows in
    table (games_caption (length rows)) (heads columns) (flat_map (game_row way notes columns) rows)

-- the games with a proved period, by period
abbrev pub periodic_row : Links → Periodic → Text
periodic_row way p = concat (
    concat (codes "<tr><th scope=\"row\">" ∷ decimal p.period ∷ codes "</th><td>" ∷ decimal p.start ∷ codes "</td><td>" ∷ [])
    ∷ link_text way anchors.Game p.code
    ∷ codes "</td></tr>\n"
    ∷ [])

abbrev pub periods_table : Links → List Summary → Text
periods_table way rows = table (codes "Games by period") (codes "period" ∷ codes "start" ∷ codes "code" ∷ []) (flat_map (periodic_row way) (by_period rows))

-- with what these notes say of the games
abbrev pub games_part : Links → List Operation → List Summary → Text
games_part way notes rows = concat (
    totals rows ∷ refuted_table way standing.Stands rows ∷ refuted_table way standing.Withdrawn rows ∷ games_table way notes rows ∷ codes "</div>\n<div id=\"periods\">\n" ∷ periods_table way rows ∷ [])

-- ---- periods that searches of this program proved

abbrev pub proved_row : ProvedPeriod → Text
proved_row p = concat (
    codes "<tr><th scope=\"row\">" ∷ decimal p.seen.period ∷ codes "</th><td>" ∷ decimal p.seen.start ∷ codes "</td><td>" ∷ code_text p.code ∷ codes "</td></tr>\n" ∷ [])

-- those, and no others
abbrev pub proved_table : List ProvedPeriod → Text
proved_table proved = table (codes "Periods proved by this program") (codes "period" ∷ codes "start" ∷ codes "code" ∷ []) (flat_map proved_row proved)

-- ---- notes, forks, authors

abbrev pub noted_row : (ℕ → Text) → Dot → Note → Text
noted_row names d n = concat (
    codes "<tr><th scope=\"row\">" ∷ escaped n.name ∷ codes "</th><td>" ∷ dot_text d ∷ name_of_author names d ∷ codes "</td><td class=\"text\">" ∷ escaped n.text
    ∷ codes "</td></tr>\n" ∷ [])

abbrev pub note_row : (ℕ → Text) → Operation → Text
note_row names o = elim o.body [ kind.Block b ↦ [] | kind.Period p ↦ [] | kind.Note n ↦ noted_row names o.dot n | kind.Removal r ↦ [] ]

abbrev pub notes_columns : List Text
notes_columns = codes "name" ∷ codes "note" ∷ codes "text" ∷ []

abbrev pub notes_table : (ℕ → Text) → List Operation → Text
notes_table names notes = table (codes "Notes") notes_columns (flat_map (note_row names) notes)

abbrev pub fork_row : (ℕ → Text) → Fork → Text
fork_row names f = concat (
    codes "<tr><th scope=\"row\">" ∷ dot_text f.dot ∷ name_of_author names f.dot ∷ codes "</th><td>" ∷ decimal f.contents ∷ codes "</td></tr>\n" ∷ [])

abbrev pub forks_table : (ℕ → Text) → List Fork → Text
forks_table names forks = table (codes "Forks") (codes "dot" ∷ codes "contents" ∷ []) (flat_map (fork_row names) forks)

abbrev pub called_row : Author → Text → Text
called_row a name = concat (
    codes "<tr><th scope=\"row\">" ∷ decimal a.author ∷ codes "</th><td class=\"text\">" ∷ escaped name ∷ codes "</td><td>" ∷ decimal a.through
    ∷ codes "</td><td>" ∷ decimal a.last ∷ codes "</td></tr>\n" ∷ [])

abbrev pub author_row : Called → Text
author_row a = called_row a.author a.name

abbrev pub authors_table : List Called → Text
authors_table authors = table (codes "Authors") (codes "author" ∷ codes "name" ∷ codes "through" ∷ codes "last" ∷ []) (flat_map author_row authors)
