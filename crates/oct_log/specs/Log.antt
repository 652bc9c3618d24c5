-- A log of a set of operations, which are listed in their order.
use Rattle.std.specs.Prelude.{ℕ, ◌==◌, ◌&&◌, Bool, true, not, List, [], ◌++◌, length, codes, Option, Some, None, filter, if◌then◌else◌}
use Rattle.std.specs.List.{flat_map}
use Rattle.oct_code.specs.Code.{Code}
use Rattle.oct_code.specs.CodeText.{code_text}
use Rattle.oct_join.specs.Clock.{covers}
use Rattle.oct_ops.specs.Body as kind
use Rattle.oct_ops.specs.Body.{Body, Operation}
use Rattle.oct_ops.specs.Games.{of_code}
use Rattle.oct_ops.specs.Operation.{Dot, Block, Period, Note}
use Rattle.oct_sheet.specs.Names.{author_name}
use Rattle.oct_sheet.specs.Sheet.{names_of}
use Rattle.oct_text.specs.Words.{Text, dot_text, labelled}
use Rattle.oct_log.specs.declared.wanted.Wanted.{Wanted}

-- ---- which operations are asked for

-- by the author, where one is named
abbrev pub is_by : Option ℕ → Operation → Bool
is_by None o = true
is_by (Some author) o = o.dot.author == author

-- of the game, where one is named
abbrev pub is_of : Option Code → Operation → Bool
is_of None o = true
is_of (Some code) o = of_code code o

-- by the author, of the game, and not covered by the clock
abbrev pub is_wanted : {A : Type 0} → Wanted A → Operation → Bool
is_wanted w o = is_by w.author o && is_of w.game o && not (covers w.since o.dot)

-- ---- what an operation says

abbrev pub block_words : Block → Text
block_words b = codes "block " ++ code_text b.code ++ labelled (codes " at ") b.start ++ labelled (codes " count ") (length b.values)

-- the heap from which on the values repeat, and then the period
abbrev pub period_words : Period → Text
period_words p = codes "period " ++ code_text p.code ++ labelled (codes " ") p.start ++ labelled (codes " ") p.period

abbrev pub note_words : Note → Text
note_words n = codes "note " ++ n.name ++ codes " " ++ n.text

abbrev pub dots_words : List Dot → Text
dots_words dots = codes "takes back" ++ flat_map (λ d. codes " " ++ dot_text d) dots

abbrev pub said_text : Body → Text
said_text (kind.Block b) = block_words b
said_text (kind.Period p) = period_words p
said_text (kind.Note n) = note_words n
said_text (kind.Removal r) = dots_words r.dots

-- ---- lines

-- a name behind a number, where there is one
abbrev pub name_words : Text → Text
name_words name = if length name == 0 then [] else codes " (" ++ name ++ codes ")"

-- the line of an operation whose author has this name
abbrev pub named_line : Text → Operation → Text
named_line name o = dot_text o.dot ++ name_words name ++ codes " " ++ said_text o.body ++ codes "\n"

-- and where authors have these names
abbrev pub log_line : (ℕ → Text) → Operation → Text
log_line name o = named_line (name o.dot.author) o

-- a line for each operation that is asked for, in their order
abbrev pub log_text : {A : Type 0} → Wanted A → List Operation → Text
log_text w ops = flat_map (log_line (author_name (names_of ops))) (filter (is_wanted w) ops)
