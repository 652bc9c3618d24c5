-- A census as HTML that is also well-formed XML: a report of all, and a site with a file for each game.
use Rattle.std.specs.Prelude.{ℕ, ◌++◌, List, [], ◌∷◌, length, map, codes, Option, Some, None}
use Rattle.std.specs.List.{concat, flat_map}
use Rattle.std.specs.Fmt.{decimal}
use Rattle.oct_code.specs.Code.{Code}
use Rattle.oct_code.specs.CodeText.{code_text}
use Rattle.oct_ops.specs.Body.{Operation}
use Rattle.oct_ops.specs.Operation.{Period}
use Rattle.oct_text.specs.Words.{Text}
use Rattle.oct_views.specs.Game.{game_tables}
use Rattle.oct_views.specs.Index.{authors_table, forks_table, games_part, notes_table, one_or, proved_table}
use Rattle.oct_proved.specs.Periods.{period_in}
use Rattle.oct_proved.specs.declared.periods.ProvedPeriod.{ProvedPeriod}
use Rattle.oct_plot.specs.Plot.{pictured, plot_with, title}
use Rattle.oct_overview.specs.Line.{with_least}
use Rattle.oct_sheet.specs.Names.{author_name}
use Rattle.oct_sheet.specs.Sheet.{GameSheet, Sheet}
use Rattle.oct_views.specs.Styles.{html_style}
use Rattle.oct_plot.specs.Style.{plot_style}
use Rattle.oct_sheet.specs.Summary.{summary_of}
use Rattle.oct_tables.specs.Values.{front_values}
use Rattle.oct_plot.specs.Sentence.{sentence}
use Rattle.oct_views.specs.declared.index.Links.TheVariants.{Files, Here}
use Rattle.oct_views.specs.declared.site.Beside.{Beside}
use Rattle.oct_views.specs.declared.site.Beside.TheVariants.{Nothing, Page}
use Rattle.oct_text.specs.declared.shown.Shown.{Shown}
use Rattle.oct_text.specs.declared.shown.Shown.TheVariants.{Brief}
use Rattle.oct_sheet.specs.declared.summary.Summary.{Summary}

-- ---- what a report and a site have in common

abbrev pub head_begin : Text
head_begin = codes "<!DOCTYPE html>\n<html xmlns=\"http://www.w3.org/1999/xhtml\" lang=\"en\">\n<head>\n<meta charset=\"utf-8\"/>\n<meta name=\"viewport\" content=\"width=device-width, initial-scale=1\"/>\n<title>"

-- the style, where it stands inside
abbrev pub style_inside : Text
style_inside = concat (codes "<style>" ∷ html_style ∷ plot_style ∷ codes "</style>" ∷ [])

-- the style sheet of a site
abbrev pub style_link : Text
style_link = codes "<link rel=\"stylesheet\" href=\"style.css\"/>"

-- ---- all games

-- what stands before the tables of all games
abbrev pub games_head : Text → Text
games_head style = concat (
    head_begin ∷ codes "Census of nim-sequences</title>\n" ∷ style
    ∷ codes "\n</head>\n<body>\n<header>\n<h1>Census of nim-sequences</h1>\n</header>\n<nav><a href=\"#games\">Games</a> <a href=\"#periods\">Periods</a> <a href=\"#records\">Notes and authors</a></nav>\n<main>\n<div id=\"games\">\n" ∷ [])

-- notes, forks and authors
abbrev pub records_part : Sheet → Text
records_part s = concat (
    codes "</div>\n<div id=\"records\">\n" ∷ notes_table (author_name s.names) s.notes ∷ forks_table (author_name s.names) s.forks ∷ authors_table s.authors ∷ codes "</div>\n" ∷ [])

abbrev pub html_end : Text
html_end = codes "</main>\n</body>\n</html>\n"

-- ---- a game in a report

abbrev pub section_head : Code → Text
section_head c = concat (codes "<section id=\"game-" ∷ code_text c ∷ codes "\">\n<h2>" ∷ code_text c ∷ codes "</h2>\n<figure>\n" ∷ [])

abbrev pub figure_end : Option Period → Text
figure_end None = codes "<figcaption>Each point is the nim-value of a heap.</figcaption>\n</figure>\n"
figure_end (Some p) = codes "<figcaption>Each point is the nim-value of a heap. The first two runs of the period are shaded.</figcaption>\n</figure>\n"

-- the picture has the first values that are shown
abbrev pub figure : Shown → GameSheet → Text
figure how g = concat (section_head g.code ∷ plot_with [] g.code (front_values how g.values g.proved) g.proved ∷ figure_end g.proved ∷ [])

abbrev pub section : List Operation → Shown → GameSheet → Text
section notes how g = concat (figure how g ∷ game_tables None notes how g ∷ codes "<p><a href=\"#games\">All games</a></p>\n</section>\n" ∷ [])

-- each game is shown with the least period that its known values prove, whether or not somebody claimed it
abbrev pub shown_summary : List Operation → GameSheet → Summary
shown_summary notes g = summary_of notes (with_least g)

abbrev pub shown_section : List Operation → Shown → GameSheet → Text
shown_section notes how g = section notes how (with_least g)

-- a report of all
abbrev pub report : Shown → Sheet → Text
report how s = concat (
    games_head style_inside ∷ games_part Here s.remarks (map (shown_summary s.remarks) s.games) ∷ records_part s ∷ flat_map (shown_section s.remarks how) s.games ∷ html_end ∷ [])

-- ---- the files of a site

-- the table of all games, and the periods that searches of this program proved
abbrev pub index_by : List ProvedPeriod → List Summary → Sheet → Text
index_by proved rows s = concat (games_head style_link ∷ games_part Files s.remarks rows ∷ proved_table proved ∷ records_part s ∷ html_end ∷ [])

abbrev pub index : List ProvedPeriod → Sheet → Text
index proved s = index_by proved (map (shown_summary s.remarks) s.games) s

-- the picture of a game, which is a file beside its HTML
abbrev pub image_head : Code → Text → Text
image_head c named = concat (codes "<figure>\n<img width=\"840\" height=\"430\" src=\"" ∷ code_text c ∷ codes ".svg\" alt=\"" ∷ named ∷ codes ". " ∷ [])

abbrev pub image : Code → List ℕ → Option Period → Text
image c values proved = concat (
    image_head c (title c (length (pictured values proved)) proved)
    ∷ sentence values proved
    ∷ codes "\"/>\n"
    ∷ figure_end proved
    ∷ [])

abbrev pub game_head : Code → ℕ → Text
game_head c known = concat (
    head_begin ∷ code_text c ∷ codes ": census of nim-sequences</title>\n" ∷ style_link
    ∷ codes "\n</head>\n<body>\n<nav><a href=\"index.html\">All games</a></nav>\n<main>\n<h1>" ∷ code_text c ∷ codes "</h1>\n<p>"
    ∷ decimal known ∷ one_or known (codes " value known: as a <a href=\"") (codes " values known: all of them as a <a href=\"") ∷ code_text c ∷ codes ".txt\">b-file</a> and as <a href=\"" ∷ code_text c
    ∷ codes ".json\">JSON</a></p>\n" ∷ [])

-- the link to the page that computes nim-values in the browser, where it stands beside the tables
abbrev pub page_link : Beside → Code → Text
page_link Nothing c = []
page_link Page c = concat (codes "<p><a href=\"compute.html?code=" ∷ code_text c ∷ codes "\">Compute it here</a>, in this browser</p>\n" ∷ [])

-- a game as a file of a site, with its period where it is among those that searches of this program proved
abbrev pub game_html : Beside → List ProvedPeriod → List Operation → GameSheet → Text
game_html beside proved notes g = concat (
    game_head g.code (length g.values) ∷ page_link beside g.code ∷ image g.code g.values g.proved ∷ game_tables (period_in proved g.code) notes Brief g ∷ html_end ∷ [])

abbrev pub style_sheet : Text
style_sheet = html_style ++ codes "\n"
