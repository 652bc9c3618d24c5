-- What is told of the long periods that somebody says of a game.
use Rattle.std.specs.Prelude.{ℕ, ◌==◌, if◌then◌else◌, List, [], ◌∷◌, ◌++◌, codes, length}
use Rattle.std.specs.List.{concat, flat_map}
use Rattle.std.specs.Fmt.{decimal}
use Rattle.oct_code.specs.Code.{Code}
use Rattle.oct_code.specs.CodeText.{code_text}
use Rattle.oct_ops.specs.Body.{Operation}
use Rattle.oct_said.specs.Noting.{said_of}
use Rattle.oct_said.specs.declared.noting.LongPeriod.{LongPeriod}
use Rattle.oct_sheet.specs.Names.{author_name}
use Rattle.oct_text.specs.Escape.{quoted}
use Rattle.oct_text.specs.Words.{Text}
use Rattle.oct_text.specs.declared.form.Form.{Form}
use Rattle.oct_text.specs.declared.form.Form.TheVariants.{Lines, Json}

-- what stands in a line of words, and what in an object
abbrev pub word : Form → Text → Text → Text
word Lines line object = line
word Json line object = object

-- the name of the author, where there is one
abbrev pub called_words : Form → Text → Text
called_words Lines name = concat (codes " author " ∷ name ∷ [])
called_words Json name = concat (codes ",\"name\":\"" ∷ quoted name ∷ codes "\"" ∷ [])

abbrev pub name_words : Form → Text → Text
name_words form name = if length name == 0 then [] else called_words form name

-- ---- a line for each

abbrev pub in_parentheses : Text → Text
in_parentheses name = if length name == 0 then [] else concat (codes " (" ∷ name ∷ codes ")" ∷ [])

-- the game, the period and from which heap on it is said to hold, and who says so
abbrev pub period_said : Code → LongPeriod → Text
period_said c long = concat (
    code_text c ∷ codes " said: period " ∷ decimal long.seen.period ∷ codes " from " ∷ decimal long.seen.start ∷ codes ", by " ∷ decimal long.author ∷ [])

abbrev pub said_line : List Operation → Code → LongPeriod → Text
said_line notes c long = concat (period_said c long ∷ in_parentheses (author_name notes long.author) ∷ codes "\n" ∷ [])

-- ---- an array of objects

abbrev pub object_front : LongPeriod → Text
object_front long = concat (
    codes "{\"period\":" ∷ decimal long.seen.period ∷ codes ",\"from\":" ∷ decimal long.seen.start ∷ codes ",\"author\":" ∷ decimal long.author ∷ [])

abbrev pub said_object : List Operation → LongPeriod → Text
said_object notes long = concat (object_front long ∷ name_words Json (author_name notes long.author) ∷ codes "}" ∷ [])

-- one behind another
abbrev pub later_object : List Operation → LongPeriod → Text
later_object notes long = concat (codes "," ∷ said_object notes long ∷ [])

-- nothing where nobody says one
abbrev pub said_member : List Operation → List LongPeriod → Text
said_member notes [] = []
said_member notes (first ∷ rest) = concat (codes ",\"said\":[" ∷ said_object notes first ∷ flat_map (later_object notes) rest ∷ codes "]" ∷ [])

-- ---- the end of what is told of a game: the end of its line, and what is said of it

abbrev pub said_by : Form → List Operation → Code → List LongPeriod → Text
said_by Lines notes c said = concat (codes "\n" ∷ flat_map (said_line notes c) said ∷ [])
said_by Json notes c said = concat (codes "}" ∷ said_member notes said ∷ codes "}\n" ∷ [])

abbrev pub said_words : Form → List Operation → Code → Text
said_words form notes c = said_by form notes c (said_of notes c)
