-- Live notes of small sets.
use Rattle.std.specs.Prelude.{◌≡◌, ℕ, List, [], ◌∷◌, codes, refl}
use Rattle.oct_ops.specs.Body.{Operation}
use Rattle.oct_ops.specs.Body as kind
use Rattle.oct_ops.specs.Operation.{Dot, dot_of, noted, removing}
use Rattle.oct_notes.specs.Notes.{live_notes, live_dots}

abbrev note : ℕ → ℕ → List ℕ → List ℕ → Operation
note author number name text = record { dot = dot_of author number; body = kind.Note (noted name text) }

abbrev removal : ℕ → ℕ → List Dot → Operation
removal author number dots = record { dot = dot_of author number; body = kind.Removal (removing dots) }

-- two notes of one name, of which the first is removed by its dot
abbrev kayles : List Operation
kayles = note 1 1 (codes "kayles") (codes "early") ∷ note 1 2 (codes "kayles") (codes "later") ∷ removal 2 1 (dot_of 1 1 ∷ []) ∷ []

the_later_stays : live_notes kayles ≡ note 1 2 (codes "kayles") (codes "later") ∷ []
the_later_stays = refl

its_dot_is_live : live_dots kayles (codes "kayles") ≡ dot_of 1 2 ∷ []
its_dot_is_live = refl

no_other_name : live_dots kayles (codes "dawson") ≡ []
no_other_name = refl

-- a removal of a dot that has no note yet, or one of another kind
nothing_to_remove : live_notes (removal 2 1 (dot_of 1 1 ∷ dot_of 2 1 ∷ []) ∷ note 3 1 (codes "a") [] ∷ []) ≡ note 3 1 (codes "a") [] ∷ []
nothing_to_remove = refl

-- by name, where one name begins the other, and not by length
names_in_byte_order : live_notes (note 1 1 (codes "b") [] ∷ note 1 2 (codes "ab") [] ∷ note 1 3 (codes "a") [] ∷ note 1 4 (codes "a") [] ∷ []) ≡ note 1 3 (codes "a") [] ∷ note 1 4 (codes "a") [] ∷ note 1 2 (codes "ab") [] ∷ note 1 1 (codes "b") [] ∷ []
names_in_byte_order = refl
