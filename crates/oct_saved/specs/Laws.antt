-- What holds of the texts of all places.
use Rattle.std.specs.Prelude.{◌≡◌}
use Rattle.oct_window.specs.Places.{farthest, IsRightPlace}
use Rattle.oct_window.specs.declared.place.Place.{Place}
use Rattle.oct_saved.specs.Reading.{IsSaved}
use Rattle.oct_saved.specs.Saved.{saved_text}

-- two places of one game, where the second is as far as the first, and right if that one is
pub record AreAlike {A B : Type 0} (p : Place A) (q : Place B) : Type 0 where
  pub code : p.code ≡ q.code
  pub listed : p.listed ≡ q.listed
  pub farthest : farthest p.stage ≡ farthest q.stage
  pub right : IsRightPlace p → IsRightPlace q

abbrev pub SameTextSamePlace : (A B : Type 0) → Type 0
SameTextSamePlace A B = (p : Place A) (q : Place B) → IsSaved p → IsSaved q → saved_text p ≡ saved_text q → AreAlike p q
