-- The saved search of a game, and where a file is none.
use Rattle.std.specs.Prelude.{◌≡◌, ◌≢◌, false}
use Rattle.std.specs.declared.alloc.Global.{Global}
use Rattle.oct_code.specs.Code.{Code}
use Rattle.oct_text.specs.Words.{Text}
use Rattle.oct_saved.specs.Reading.{IsSaved, RefusesPlace}
use Rattle.oct_saved.specs.Saved.{has_tag, saved_text}
use Rattle.oct_saved.specs.declared.error.ReadError.TheVariants.{Refused}
use Rattle.oct_window.specs.declared.place.Place.{Place}
use Rattle.census_state.specs.declared.fault.Fault.{Fault}
use Rattle.census_state.specs.declared.fault.Fault.TheVariants.{OutOfMemory, Saved}
use Rattle.census_state.specs.declared.saved_error.SavedError.TheVariants as saved

-- the text is that of a place in another game
pub record IsOfAnotherGame (c : Code) (text : Text) : Type 0 where
  pub place : Place Global
  pub is_saved : IsSaved place
  pub spelled : text ≡ saved_text place
  pub other : place.code ≢ c

abbrev pub IsSavedFault : Code → Text → Fault → Type 0
IsSavedFault c text (Saved saved.Version) = has_tag text ≡ false
IsSavedFault c text (Saved saved.Refused) = RefusesPlace Global text Refused
IsSavedFault c text (Saved saved.Game) = IsOfAnotherGame c text
IsSavedFault c text OutOfMemory = Unit {0}
IsSavedFault c text fault = ⊥
