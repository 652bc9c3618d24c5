-- What is told of games, and what is shown of some of them alone.
use Rattle.std.specs.Prelude.{List, [], ◌∷◌, Result, Ok}
use Rattle.oct_code.specs.Code.{Code}
use Rattle.oct_delta.specs.Text.{Bytes}
use Rattle.oct_ops.specs.Operations.{Operations, listed}
use Rattle.oct_sheet.specs.Sheet.{told_games}
use Rattle.oct_text.specs.Words.{Text}
use Rattle.oct_overview.specs.Line.{listing_of, selected}
use Rattle.oct_overview.specs.Overview.{overview}
use Rattle.oct_overview.specs.declared.listing.Condition.{Condition}
use Rattle.oct_overview.specs.declared.listing.Listing.{Listing}
use Rattle.oct_text.specs.declared.form.Form.{Form}
use Rattle.oct_text.specs.declared.told.Told.{Told}
use Rattle.census_state.specs.Alone.{only_of}
use Rattle.census_state.specs.Codes.{codes_of}
use Rattle.census_tell.specs.Questions.{shown_among}
use Rattle.census_state.specs.Replies.{Answer, text_alone}
use Rattle.census_state.specs.Steps.{◌>>=◌}
use Rattle.census_state.specs.Stored.{loaded}
use Rattle.census_state.specs.declared.fault.Fault.{Fault}
use Rattle.census_state.specs.declared.view.View.{View}

-- the games that are named, or all where none is
abbrev pub named_or : List Code → List Code → List Code
named_or [] all = all
named_or (c ∷ named) all = c ∷ named

-- what is listed of those for which each of the conditions holds, of all that have a block or a claim, or of which a live note says a long period, where none is named
abbrev pub games_in : Operations → List Code → List Condition → Listing → Text
games_in ops named which listing = overview listing (listed ops) (selected which (listed ops) (named_or named (told_games (listed ops))))

-- ---- the commands

abbrev pub list_games : Bytes → List Bytes → List Condition → Listing → Result Answer Fault
list_games state words which listing = do
  replica ← loaded state
  named ← codes_of words
  Ok (text_alone (games_in replica.ops named which listing))

-- where there is no condition, each of them is told of
abbrev pub games : Bytes → List Bytes → Told → Form → Result Answer Fault
games state words what form = list_games state words [] (listing_of what form)

-- the games that are named, with the authors of the whole state
abbrev pub only : Bytes → List Bytes → View → Result Answer Fault
only state words view = do
  replica ← loaded state
  named ← codes_of words
  Ok (text_alone (shown_among view (only_of named replica.ops) replica.ops))
