-- What holds of escaped texts: a text of others ends no part of HTML.
use Rattle.std.specs.Prelude.{◌≡◌, ℕ, ◌==◌, ◌||◌, Bool, true, false, not, List, [], ◌∷◌, ◌++◌, codes, Contains}
use Rattle.std.specs.List.{list_all}
use Rattle.oct_text.specs.Words.{Text}
use Rattle.oct_text.specs.Escape.{escaped}

-- < > " '
abbrev pub ends_a_part : ℕ → Bool
ends_a_part b = (b == 60) || ((b == 62) || ((b == 34) || (b == 39)))

abbrev pub entities : List Text
entities = codes "&amp;" ∷ codes "&lt;" ∷ codes "&gt;" ∷ codes "&quot;" ∷ codes "&#39;" ∷ []

-- the text is made of the five entities, and of bytes that are no & and end no part of HTML
pub data IsInert : Text → Type 0 where
  nothing : IsInert []
  byte : (b : ℕ) (text : Text) → ((b == 38) || ends_a_part b) ≡ false → IsInert text → IsInert (b ∷ text)
  entity : (e text : Text) → Contains entities e → IsInert text → IsInert (e ++ text)

abbrev pub EscapedIsInert : Type 0
EscapedIsInert = (text : Text) → IsInert (escaped text)

abbrev pub EscapedEndsNothing : Type 0
EscapedEndsNothing = (text : Text) → list_all (λ b. not (ends_a_part b)) (escaped text) ≡ true
