-- What one of two sets of operations has, and the other has not.
use Rattle.std.specs.Prelude.{ℕ, Bool, List, [], ◌++◌, codes, filter, if◌then◌else◌}
use Rattle.std.specs.List.{flat_map}
use Rattle.std.specs.Option.{is_none}
use Rattle.oct_code.specs.Code.{Code}
use Rattle.oct_ops.specs.Body.{Operation}
use Rattle.oct_ops.specs.Games.{game_of}
use Rattle.oct_ops.specs.Operation.{Dot}
use Rattle.oct_ops.specs.Operations.{Operations, contains, listed, union}
use Rattle.oct_pages.specs.Catalogue.{games}
use Rattle.oct_sheet.specs.Names.{author_name}
use Rattle.oct_sheet.specs.Sheet.{names_of}
use Rattle.oct_store.specs.Summary.{of_game}
use Rattle.oct_text.specs.Words.{Text}
use Rattle.oct_log.specs.Log.{named_line}
use Rattle.oct_log.specs.Twice.{is_twice, sides_of}
use Rattle.oct_log.specs.declared.twice.Sides.{Sides}

-- the line of an operation of one set or the other, whose author has this name, behind these words: nothing where both have it
abbrev pub apart : Text → Operations → Operations → Text → Operation → Text
apart lead one other name o =
    if contains one o
    then (if contains other o then [] else lead ++ codes "- " ++ named_line name o)
    else lead ++ codes "+ " ++ named_line name o

-- and where authors have these names
abbrev pub diff_line : Operations → Operations → (ℕ → Text) → Operation → Text
diff_line one other names o = apart [] one other (names o.dot.author) o

-- a note or a removal
abbrev pub has_no_game : Operation → Bool
has_no_game o = is_none (game_of o)

-- the lines of a game, of operations among which are all of both
abbrev pub game_part : Operations → Operations → (ℕ → Text) → Operations → Code → Text
game_part one other names all c = flat_map (diff_line one other names) (listed (of_game all c))

-- and those of notes and removals
abbrev pub rest_part : Operations → Operations → (ℕ → Text) → Operations → Text
rest_part one other names all = flat_map (diff_line one other names) (filter has_no_game (listed all))

-- an operation of a dot that both use, each for something that the other has not; there are such by these sides of dots
abbrev pub twice_line : Operations → Operations → (ℕ → Text) → (Dot → Sides) → Operation → Text
twice_line one other names sides o = if is_twice (sides o.dot) then apart (codes "used twice ") one other (names o.dot.author) o else []

-- those of all such dots
abbrev pub twice_part : Operations → Operations → (ℕ → Text) → Operations → Text
twice_part one other names all = flat_map (twice_line one other names (sides_of one other (listed all))) (listed all)

-- the lines of each game, then those of notes and removals, and then those of dots that were used twice
abbrev pub diff_of : Operations → Operations → (ℕ → Text) → Operations → Text
diff_of one other names all = flat_map (game_part one other names all) (games (listed all)) ++ rest_part one other names all ++ twice_part one other names all

-- the lines of some games, in the order in which they are named
abbrev pub diff_of_games : Operations → Operations → List Code → Text
diff_of_games one other named = flat_map (game_part one other (author_name (names_of (listed (union one other)))) (union one other)) named

abbrev pub diff_text : Operations → Operations → Text
diff_text one other = diff_of one other (author_name (names_of (listed (union one other)))) (union one other)
