-- What follows the games in a catalogue.
use Rattle.std.specs.Prelude.{List, [], ◌∷◌, ◌++◌, map}
use Rattle.oct_ops.specs.Body.{Operation}
use Rattle.oct_store.specs.Summary as summary
use Rattle.oct_notes.specs.Notes.{live_notes}
use Rattle.oct_pages.specs.Catalogue.{Text, author_line, ending, fork_line, note_line}

-- the notes and forks of a part, and the authors of the whole
abbrev pub lines_after_games : List Operation → List Operation → List Text
lines_after_games part whole = map note_line (live_notes part) ++ map (fork_line part) (summary.forks part) ++ map (author_line whole) (summary.authors whole) ++ ending ∷ []
