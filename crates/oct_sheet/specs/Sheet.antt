-- What views show of a set of operations, by the definitions that the catalogue cites. The operations are listed in their
-- order.
use Rattle.std.specs.Prelude.{List, ◌++◌, map}
use Rattle.std.specs.List.{filter_map}
use Rattle.oct_code.specs.Code.{Code, code_cmp}
use Rattle.oct_notes.specs.Notes.{live_notes}
use Rattle.oct_ops.specs.Arranged.{arranged}
use Rattle.oct_ops.specs.Body.{Operation}
use Rattle.oct_pages.specs.Catalogue.{games}
use Rattle.oct_said.specs.Noting.{long_period_of}
pub use Rattle.oct_pages.specs.Sheet.{GameSheet, game_sheet}
use Rattle.oct_store.specs.Rows.{author_rows, fork_rows}
use Rattle.oct_store.specs.declared.fork.Fork.{Fork}
use Rattle.oct_sheet.specs.Names.{Called, called, naming}

-- the live notes by name, the dots with several contents, and the authors with their names
abbrev pub notes_of : List Operation → List Operation
notes_of ops = live_notes ops

abbrev pub forks_of : List Operation → List Fork
forks_of ops = fork_rows ops

abbrev pub authors_of : List Operation → List Called
authors_of ops = map (called (live_notes ops)) (author_rows ops)

-- those of the live notes that name authors
abbrev pub names_of : List Operation → List Operation
names_of ops = naming (live_notes ops)

-- the live notes, of which views show what is withdrawn, and the long periods of games
abbrev pub remarks_of : List Operation → List Operation
remarks_of ops = live_notes ops

-- ---- games

-- those of which notes say long periods
abbrev pub noted_games : List Operation → List Code
noted_games notes = map (λ long. long.code) (filter_map long_period_of notes)

-- the games that views tell of, in the order of their codes: those that have a block or a claim, and those of which a live note says a long period
abbrev pub told_games : List Operation → List Code
told_games ops = arranged code_cmp (games ops ++ noted_games (live_notes ops))

-- the games, and what belongs to none
pub record Sheet : Type 0 where
  pub games : List GameSheet
  pub names : List Operation
  pub remarks : List Operation
  pub notes : List Operation
  pub forks : List Fork
  pub authors : List Called

-- what there is to show of a part of the operations: its games, notes and forks, and the authors, their names and what else they say of the whole
abbrev pub sheet_among : List Operation → List Operation → Sheet
sheet_among part whole = record {
  games = map (game_sheet part) (told_games part);
  names = names_of whole;
  remarks = remarks_of whole;
  notes = notes_of part;
  forks = forks_of part;
  authors = authors_of whole;
}

abbrev pub sheet : List Operation → Sheet
sheet ops = sheet_among ops ops
